-- What the function `check` itself answers as even: 1 exactly on the tables that it accepts or refuses by 6 and that are symmetric by Definition 4.3
-- of RR-2523.
-- Assumes nothing.
use mathlib.Core.Bool.{Bool, true, false, cond, ◌&&◌, ◌||◌}
use mathlib.Core.List.{List}
use mathlib.Core.Logic.{◌↔◌, ◌⊎◌, inl, inr, ⊎_elim}
use mathlib.Core.Path.{◌≡◌, refl, sym, ap, ◌∙◌}
use Prim.Native.Nat.{ℕ, ◌<◌}
use native.Mathlib.Omega.{arith}
use lib.Dec.{eqb}
use lib.ListN.{length}
use borrow.Author.Tests.{eqb-true, eq-eqb}
use contract.Lifetimes.{Lfts}
use denote.Ref.{Bor, MutBor}
use Rattle.std.specs.Prelude.{Result}
use Rattle.lists.proofs.Searches.{every_true, every_at, all_true, all-at}
use Rattle.lists.proofs.Tests.{and_left, and_right}
use Rattle.std.proofs.lemmas.Bool.{cases_Bool, or_left, or_right, or_cases}
use Rattle.stations.specs.Sets.{size}
use Rattle.quorum.specs.Answer.{Answer, answer_to, answer, said}
use Rattle.quorum.specs.Even.{belongs, equal_shares, equal_sizes, even}
use Rattle.quorum.specs.Family.{quorum}
use Rattle.quorum.specs.Refusal.{refusal}
use Rattle.quorum.specs.Symmetric.{Symmetric, SomeSymmetric}
use Rattle.quorum.specs.declared.Accepted.{Accepted}
use Rattle.quorum.specs.declared.Rejected.{Rejected}
use Rattle.quorum.proofs.Evenness.{belongs-numbers}
use Rattle.quorum.proofs.Refusals.{said-refusal}
use Rattle.quorum.proofs.check.Reads as check

module _ (n : ℕ) (table : List ℕ) where
  pub symmetric_even : (β γ : ℕ) → Symmetric n table β γ → even n table ≡ 1
  unfolding even
  symmetric_even β γ s = rw (shares, sizes)
    where
      effort : (i : ℕ) → i < n → belongs table i ≡ β
      effort i h = belongs-numbers table i ∙ s.effort i h

      shares : equal_shares n table ≡ true
      shares = every_true _ n (λ i h. eq-eqb (belongs table i) (belongs table 0) (effort i h ∙ sym (effort 0 (omega arith))))

      sizes : equal_sizes table ≡ true
      sizes = all_true _ 0 table (λ p h. eq-eqb (size (quorum table p)) (size (quorum table 0)) (s.sizes p h ∙ sym (s.sizes 0 (omega arith))))

  both : (b : Bool) → ◌≡◌ {A = ℕ} (cond b 1 0) 1 → b ≡ true
  both true e = refl
  both false e = absurd (omega arith)

  even_symmetric : even n table ≡ 1 → SomeSymmetric n table
  unfolding even
  even_symmetric e =
      let balanced : (equal_shares n table && equal_sizes table) ≡ true = both (equal_shares n table && equal_sizes table) e in (
        belongs table 0,
        size (quorum table 0),
        record {
          effort = λ i h. sym (belongs-numbers table i) ∙ eqb-true (belongs table i) (belongs table 0) (every_at _ n (and_left (equal_shares n table) (equal_sizes table) balanced) i h);
          sizes = λ p h. eqb-true (size (quorum table p)) (size (quorum table 0)) (all-at _ 0 table (and_right (equal_shares n table) (equal_sizes table) balanced) p h);
        },
      )

  -- the law of the definition: even is 1 exactly where such β and γ are
  pub even_iff : (even n table ≡ 1) ↔ SomeSymmetric n table
  even_iff = (even_symmetric, λ (β, γ, s). symmetric_even β γ s)

-- ---- the answer

-- whether even is worked out on this refusal: on 0, which is none, and on 6
asked : ℕ → Bool
asked r = eqb r 0 || eqb r 6

answer-even : (n : ℕ) (table : List ℕ) (r : ℕ) → (answer_to n table r).even ≡ cond (asked r) (even n table) 0
unfolding answer_to asked
answer-even n table r =
    ⊎_elim (λ (e : eqb r 0 ≡ true). rw e)
    (λ (d : eqb r 0 ≡ false).
    ⊎_elim (λ (e : eqb r 6 ≡ true). rw (d, e))
    (λ (d' : eqb r 6 ≡ false). ⊎_elim (λ (e : eqb r 7 ≡ true). rw (d, d', e)) (λ (d'' : eqb r 7 ≡ false). rw (d, d', d'')) (cases_Bool (eqb r 7)))
    (cases_Bool (eqb r 6)))
    (cases_Bool (eqb r 0))

said-even : (n k : ℕ) (table : List ℕ) (room : ℕ) (checked : Result Accepted Rejected) → said checked ≡ answer n k table room
    → (said checked).even ≡ cond (asked (said checked).refusal) (even n table) 0
unfolding answer
said-even n k table room checked e =
    ap (λ (a : Answer). a.even) e ∙ answer-even n table (refusal n k table room)
    ∙ ap (λ (r : ℕ). cond (asked r) (even n table) 0) (sym (said-refusal n k table room checked e))

-- A call of `check`, with any numbers and slices, is known by what the checker has learnt of it: its contract, and nothing else. `left` is the
-- scratch afterwards.
pub check_even : (n k : ℕ) (quorums : Bor (List ℕ)) (scratch left : MutBor (List ℕ)) (checked : Result Accepted Rejected) (κs : Lfts 2)
    → check.Learnt κs (n, (k, (quorums, (scratch, tt)))) checked (n, (k, (quorums, (left, tt))))
    → ((said checked).even ≡ 1) ↔ ((((said checked).refusal ≡ 0) ⊎ ((said checked).refusal ≡ 6)) × SomeSymmetric n quorums.now)
unfolding asked
check_even n k quorums scratch left checked κs learnt = (to (cases_Bool (asked r)), from)
  where
    r : ℕ
    r = (said checked).refusal

    is : (said checked).even ≡ cond (asked r) (even n quorums.now) 0
    is = said-even n k quorums.now (length scratch.now) checked learnt.0

    to : (asked r ≡ true) ⊎ (asked r ≡ false) → (said checked).even ≡ 1 → ((r ≡ 0) ⊎ (r ≡ 6)) × SomeSymmetric n quorums.now
    to (inl t) e =
        let here : (said checked).even ≡ even n quorums.now = rw t at is in
        (⊎_elim (λ z. inl (eqb-true r 0 z)) (λ s. inr (eqb-true r 6 s)) (or_cases (eqb r 0) (eqb r 6) t), (even_iff n quorums.now).0 (sym here ∙ e))
    to (inr f) e = let none : (said checked).even ≡ 0 = rw f at is in absurd (omega arith)

    from : ((r ≡ 0) ⊎ (r ≡ 6)) × SomeSymmetric n quorums.now → (said checked).even ≡ 1
    from (which, symmetric) =
        let t : asked r ≡ true = ⊎_elim (λ z. or_left (eqb r 0) (eqb r 6) (eq-eqb r 0 z)) (λ s. or_right (eqb r 0) (eqb r 6) (eq-eqb r 6 s)) which in
        let here : (said checked).even ≡ even n quorums.now = rw t at is in
        here ∙ (even_iff n quorums.now).1 symmetric
