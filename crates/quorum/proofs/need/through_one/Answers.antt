-- `quorum::need::through_one` meets its contract. The loop's invariant: the least byte of the quorums to come, with what was found before, is the least of all.
-- Assumes nothing.
use mathlib.Core.Path.{◌≡◌, sym, ap, ◌∙◌}
use Prim.Native.Nat.{ℕ, ◌+◌, min}
use native.Mathlib.Omega.{arith}
use lib.Bits.{bit_and, and_le_l}
use lib.ListN.{drop, get_or, length-drop}
use lib.Seq.{get_or-drop}
use borrow.Author.Tests.{ne_eqb}
use Rattle.quorum.specs.Inner.Need.{no_need, least_byte, one_more}
use Rattle.quorum.proofs.Needing.{least-next, least-low}
use Rattle.quorum.proofs.need.through_one.Goals as goal
use Rattle.quorum.proofs.need.through_one.Goals.{else-byte-least, then-byte-least+else-byte-low}

pub returns-then-low-eq-NO_NEED : goal.returns-then-low-eq-NO_NEED
returns-then-low-eq-NO_NEED c =
    let start = c.args in
    sym (ap one_more (least-low start.bytes.now start.set no_need start.quorums.now (λ p h. omega (arith, c.requires.by_index p h, c.if-low-eq-NO_NEED.true))))

pub bounds-bytes-left : goal.bounds-bytes-left
bounds-bytes-left c =
    let start = c.args in
    let at = c.loop-quorum in
    omega (arith, and_le_l start.set (get_or start.quorums.now at.quorum-index 0))

pub returns-then-byte-low : goal.returns-then-byte-low
returns-then-byte-low c =
    let start = c.args in
    let at = c.loop-quorum in
    let bytes = start.bytes.now in
    let table = start.quorums.now in
    let byte : get_or bytes (bit_and start.set (get_or table at.quorum-index 0)) 0 ≡ start.low = ap (λ (x : ℕ). get_or bytes x 0) (sym c.common-left.ensures) ∙ c.if-byte-low.true in
    let lowest : min at.least (get_or bytes (bit_and start.set (get_or table at.quorum-index 0)) 0) ≡ start.low = omega arith in
    let rest : least_byte bytes start.set start.low (drop (at.quorum-index + 1) table) ≡ start.low =
    least-low bytes start.set start.low (drop (at.quorum-index + 1) table) (λ p h. rw (get_or-drop (at.quorum-index + 1) table p 0) (c.requires.by_index (at.quorum-index + 1 + p) (omega (arith, rw length-drop at h)))) in
    let all : least_byte bytes start.set no_need table ≡ start.low =
    sym at.invariant.1 ∙ least-next bytes start.set at.least table at.quorum-index (omega arith) ∙ ap (λ (b : ℕ). least_byte bytes start.set b (drop (at.quorum-index + 1) table)) lowest ∙ rest in
    rw (all, ne_eqb start.low no_need (λ e. omega arith)) (ap (λ (x : ℕ). x + 1) c.if-byte-low.true)

pub loop-quorum-preserved : goal.loop-quorum-preserved
loop-quorum-preserved c =
    let start = c.args in
    let at = c.loop-quorum in
    let left = c.common-left.ensures in
    let bytes = start.bytes.now in
    let table = start.quorums.now in
    let byte : get_or bytes c.common-left.result 0 ≡ get_or bytes (bit_and start.set (get_or table at.quorum-index 0)) 0 = ap (λ (x : ℕ). get_or bytes x 0) left in
    let next : c.if-byte-least.least ≡ min at.least (get_or bytes (bit_and start.set (get_or table at.quorum-index 0)) 0) =
    elim c.if-byte-least.branch [ then-byte-least+else-byte-low w ↦ omega arith | else-byte-least w ↦ omega arith ] in
    (omega arith, ap (λ (b : ℕ). least_byte bytes start.set b (drop (at.quorum-index + 1) table)) next ∙ sym (least-next bytes start.set at.least table at.quorum-index (omega arith)) ∙ at.invariant.1)
