-- `Table::fill_highest` meets its contract. The loop's invariant: the byte of every smaller set says what that set needs.
-- Assumes nothing.
use mathlib.Core.List.{List}
use mathlib.Core.Path.{◌≡◌, ap, ◌∙◌}
use Prim.Native.Nat.{ℕ, suc, ◌+◌, ◌-◌, ◌^◌}
use native.Mathlib.Nat.{pow-suc}
use native.Mathlib.Numerals.{add-one}
use native.Mathlib.Omega.{arith}
use lib.ListN.{get_or}
use lib.Pow.{pow_mono}
use Rattle.stations.proofs.Built.{only_below, member_highest}
use Rattle.quorum.specs.Inner.Need.{no_need, least_byte, one_more, one_less}
use Rattle.quorum.proofs.Needing.{left-low, filled_next}
use Rattle.quorum.proofs.table.Table.fill_highest.Goals as goal

double : (i : ℕ) → 2 ^ suc i ≡ 2 ^ i + 2 ^ i
double i = pow-suc 2 i ∙ omega arith

pub overflow_add-set-end : goal.overflow_add-set-end
overflow_add-set-end c =
    let i = c.args.i in
    record { fits = omega (arith, c.only-first.ensures, only_below i (omega arith), pow_mono {i = i} {j = 11} (omega arith)) }

pub loop-set-init : goal.loop-set-init
loop-set-init c =
    let i = c.args.i in
    let first : c.only-first.result ≡ 2 ^ i = c.only-first.ensures ∙ only_below i (omega arith) in
    (first, λ s h. c.requires.below s (omega arith))

pub bounds-bytes-set : goal.bounds-bytes-set
bounds-bytes-set c = omega (arith, c.loop-set.auto.set-end, pow_mono {i = c.args.i} {j = 11} (omega arith))

pub through_one-requires-clause-set_in_bounds : goal.through_one-requires-clause-set_in_bounds
through_one-requires-clause-set_in_bounds c = omega (arith, c.loop-set.auto.set-end, c.loop-set.invariant.0, pow_mono {i = c.args.i} {j = 11} (omega arith))

pub bounds-bytes-set-in-loop-set : goal.bounds-bytes-set-in-loop-set
bounds-bytes-set-in-loop-set c = omega (arith, c.loop-set.auto.set-end, c.loop-set.invariant.0, pow_mono {i = c.args.i} {j = 11} (omega arith))

pub through_one-requires-clause-by_index : goal.through_one-requires-clause-by_index
through_one-requires-clause-by_index c =
    let at = c.loop-set in
    let i = c.args.i in
    let found = c.without-found.ensures in
    let least : c.lowest_left.result ≡ one_less (get_or at.bytes (at.set - 2 ^ i) 0) =
    c.lowest_left.ensures ∙ ap (λ (first : ℕ). one_less (get_or at.bytes (at.set - first) 0)) at.invariant.0 in
    (λ p h. rw (found, least)
    (left-low (suc i) c.args.self.now.quorums.now (omega arith) at.bytes i at.set (omega arith) (omega arith) (omega (arith, at.auto.set-end)) at.invariant.1 p (rw found at h)))

pub loop-set-preserved : goal.loop-set-preserved
loop-set-preserved c =
    let at = c.loop-set in
    let i = c.args.i in
    let table = c.args.self.now.quorums.now in
    let byte = c.through_one.ensures ∙ ap (λ (few : List ℕ). one_more (least_byte at.bytes at.set no_need few)) c.without-found.ensures in (
      at.invariant.0,
      filled_next (suc i) table (omega arith) at.bytes i at.set c.through_one.result (member_highest i at.set (omega arith) (omega (arith, at.auto.set-end)))
          (omega (arith, double i, at.auto.set-end)) (omega (arith, pow_mono {i = i} {j = 11} (omega arith), at.auto.set-end)) byte at.invariant.1,
    )

pub returns : goal.returns
returns c = λ s h. c.loop-set.invariant.1 s (omega (arith, c.loop-set.invariant.0, double c.args.i, rw add-one at h))
