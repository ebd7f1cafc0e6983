-- `tables::uniforms::Sets::write`, which calls itself, meets its contract. The measure is the number of stations.
-- Assumes nothing.
use Rattle.std.proofs.Common.{◌≡◌, ℕ, ◌+◌, ◌-◌, ◌≤◌, List, ◌++◌, length, take, drop, length-drop, sym, ap, ◌∙◌, arith, rules}
use Prim.Native.Nat.{min}
use lib.ListN.{set}
use lib.Pow.{pow_pos, pow_mono}
use Rattle.std.proofs.lemmas.List.{append-nil, drop_all}
use Rattle.stations.specs.Sets.{everyone, places}
use Rattle.stations.specs.Sizes.{choose}
use Rattle.stations.proofs.Built.{only_below}
use Rattle.stations.proofs.Choosing.{choose-le, choose-none, choose-some, choose-all}
use Rattle.tables.specs.Inner.Stored.{stored}
use Rattle.tables.proofs.WritingSets.{choose_last, rest_part, stored_one, stored-all, stored-none, stored_halves, above-fits}
use Rattle.tables.proofs.uniforms.Sets.+write.Goals as goal

pub bounds-out-0 : goal.bounds-out-0
bounds-out-0 t c =
    omega (arith, c.requires.1, ap (choose c.args.self.stations) c.if-self-eq0.true, choose-some c.args.self.stations 0 (omega arith))

pub returns-then-self-eq0 : goal.returns-then-self-eq0
unfolding choose
returns-then-self-eq0 t c =
    record {
      counted = rw c.if-self-eq0.true;
      written = rw c.if-self-eq0.true (stored_one c.args.out.now c.args.above c.args.self.stations);
    }

pub returns-then-self : goal.returns-then-self
returns-then-self t c =
    record {
      counted = omega (arith, choose-none c.args.self.stations c.args.self.size c.if-self.true);
      written = stored-none c.args.out.now c.args.above c.args.self.stations c.args.self.size c.if-self.true;
    }

pub bounds-out-0-then-self-2 : goal.bounds-out-0-then-self-2
bounds-out-0-then-self-2 t c = omega (arith, c.requires.1, c.if-self-2.true, choose-some c.args.self.stations c.args.self.size (omega arith))

pub returns-then-self-2 : goal.returns-then-self-2
returns-then-self-2 t c =
    let n = c.args.self.stations in
    let all : n ≡ c.args.self.size = c.if-self-2.true in
    let low : min n places ≡ n = omega (arith, c.args.self.few) in
    record {
      counted = sym (choose-all n) ∙ ap (choose n) all;
      written = ap (λ (q : ℕ). set c.args.out.now 0 (c.args.above + q)) (c.everyone.ensures ∙ ap everyone low)
          ∙ stored-all c.args.out.now c.args.above n
          ∙ ap (stored c.args.out.now c.args.above n) all;
    }

pub write-first-requires : goal.write-first-requires
write-first-requires t c =
    let n = c.args.self.stations in
    (omega (arith, c.decreases), (omega (arith, c.requires.0, above-fits n c.args.above (omega arith)), omega (arith, c.requires.1, choose_last n c.args.self.size (omega arith) (omega arith))))

pub overflow_add-above : goal.overflow_add-above
overflow_add-above t c =
    let n = c.args.self.stations in
    record { fits = omega (arith, c.requires.0, above-fits n c.args.above (omega arith), c.only.ensures, only_below (n - 1) (omega (arith, c.args.self.few)), pow_pos (n - 1)) }

pub slice_bounds-write-count : goal.slice_bounds-write-count
slice_bounds-write-count t c =
    omega (arith, c.requires.1, choose_last c.args.self.stations c.args.self.size (omega arith) (omega arith), c.write-first.ensures.counted, c.write-first.auto.out)

pub slice_bounds-write-start : goal.slice_bounds-write-start
slice_bounds-write-start t c =
    let within : c.write-first.result ≤ length c.write-first.new.out =
    omega (arith, c.requires.1, choose_last c.args.self.stations c.args.self.size (omega arith) (omega arith), c.write-first.ensures.counted, c.write-first.auto.out) in
    search (rules, within)

pub offset_bounds-out-first : goal.offset_bounds-out-first
offset_bounds-out-first t c =
    let n = c.args.self.stations in
    record { fits = omega (arith, c.write-first.ensures.counted, choose-le (n - 1) c.args.self.size, pow_mono {i = n - 1} {j = 12} (omega (arith, c.args.self.few))) }

pub write-requires : goal.write-requires
write-requires t c =
    let n = c.args.self.stations in
    let first = c.write-first in (
      omega (arith, c.decreases),
      (
        omega (arith, c.requires.0, above-fits n c.args.above (omega arith), c.only.ensures, only_below (n - 1) (omega (arith, c.args.self.few))),
        rw (rest_part first.new.out first.result) (omega (arith, length-drop first.result first.new.out, c.requires.1, choose_last n c.args.self.size (omega arith) (omega arith), first.ensures.counted, first.auto.out)),
      ),
    )

pub overflow_add-result : goal.overflow_add-result
overflow_add-result t c =
    let n = c.args.self.stations in
    record { fits = omega (arith, choose_last n c.args.self.size (omega arith) (omega arith), c.write-first.ensures.counted, c.write.ensures.counted, choose-le n c.args.self.size, pow_mono {i = n} {j = 12} c.args.self.few) }

pub returns : goal.returns
returns t c =
    let n = c.args.self.stations in
    let size = c.args.self.size in
    let first = c.write-first in
    let second = c.write in
    let all : second.new.out ++ drop (length first.new.out - first.result) (drop first.result first.new.out) ≡ second.new.out =
    ap (λ (l : List ℕ). second.new.out ++ l) (drop_all (length first.new.out - first.result) (drop first.result first.new.out) (omega (arith, length-drop first.result first.new.out))) ∙ append-nil second.new.out in
    record {
      counted = omega (arith, choose_last n size (omega arith) (omega arith), first.ensures.counted, second.ensures.counted);
      written = ap (λ (l : List ℕ). take first.result first.new.out ++ l) all
          ∙ stored_halves c.args.out.now c.args.above n size (omega arith) (omega arith) c.requires.1
          first.new.out second.new.out first.result c.only.result first.ensures.written first.ensures.counted (c.only.ensures ∙ only_below (n - 1) (omega (arith, c.args.self.few))) (second.ensures.written ∙ ap (λ (l : List ℕ). stored l (c.args.above + c.only.result) (n - 1) (size - 1)) (rest_part first.new.out first.result));
    }
