-- The lanes up of a station while RELEASE goes up to one member after the other.
-- Assumes nothing.
use mathlib.Core.Bool.{true, false, cond}
use mathlib.Core.List.{List}
use mathlib.Core.Logic.{by_cases}
use mathlib.Core.Path.{◌≡◌, sym, ◌∙◌, fun_ext}
use Prim.Native.Nat.{ℕ, ◌+◌, ◌≤◌, ◌<◌, ◌^◌}
use native.Mathlib.Decide.{ℕ_discrete, dec_lt}
use native.Mathlib.Omega.{arith}
use lib.Dec.{ltb}
use borrow.Author.Tests.{lt-ltb, le-ltb}
use Rattle.lists.specs.At.{at}
use Rattle.lists.proofs.Changed.{at_same, at_other}
use Rattle.stations.specs.Member.{member}
use Rattle.stations.proofs.Members.{member_below}
use Rattle.plain.specs.Lanes.{up_places, passes, sent}
use Rattle.plain.specs.Release.{releasing, release_passes}
use Rattle.plain.specs.declared.Message.{Message}
use Rattle.plain.specs.declared.Message.TheVariants.{Release}
use Rattle.plain.proofs.Releasing.{releasing-member, releasing_other}

module _ (set : ℕ) (lanes : ℕ → List Message) where
  -- ---- one station

  pub passes-member : (j : ℕ) → member set j ≡ true → release_passes set lanes j ≡ passes up_places (sent (lanes j) Release)
  passes-member j m = rw (m, releasing-member set lanes j m)

  pub passes_other : (j : ℕ) → member set j ≡ false → release_passes set lanes j ≡ false
  passes_other j m = rw m

  -- no member: its lane stays
  pub other_stays : (j : ℕ) → member set j ≡ false → lanes ≡ at lanes j (releasing set lanes j)
  other_stays j m =
      fun_ext (λ i.
      by_cases (ℕ_discrete i j)
      (λ (e : i ≡ j). rw e (sym (at_same lanes j (releasing set lanes j) ∙ releasing_other set lanes j m)))
      (λ (d : i ≡ j → ⊥). sym (at_other lanes j (releasing set lanes j) i d)))

  -- ---- the stations below j

  unfoldable pub released-below : ℕ → ℕ → List Message
  released-below j i = cond (ltb i j) (releasing set lanes i) (lanes i)

  below_in : (j i : ℕ) → i < j → released-below j i ≡ releasing set lanes i
  unfolding released-below
  below_in j i h = rw (lt-ltb i j h)

  below_out : (j i : ℕ) → j ≤ i → released-below j i ≡ lanes i
  unfolding released-below
  below_out j i h = rw (le-ltb i j h)

  pub below_none : lanes ≡ released-below 0
  below_none = fun_ext (λ i. sym (below_out 0 i (omega arith)))

  -- what RELEASE to j does to the lanes then
  releasing-here : (j : ℕ) → releasing set (released-below j) j ≡ releasing set lanes j
  unfolding releasing
  releasing-here j = rw (below_out j j (omega arith))

  pub passes-here : (j : ℕ) → release_passes set (released-below j) j ≡ release_passes set lanes j
  passes-here j = rw (releasing-here j)

  pub below_more : (j : ℕ) → at (released-below j) j (releasing set (released-below j) j) ≡ released-below (j + 1)
  below_more j =
      fun_ext (λ i.
      by_cases (ℕ_discrete i j)
      (λ (e : i ≡ j). rw (e, at_same (released-below j) j (releasing set (released-below j) j)) (releasing-here j ∙ sym (below_in (j + 1) j (omega arith))))
      (λ (d : i ≡ j → ⊥). rw (at_other (released-below j) j (releasing set (released-below j) j) i d) (elsewhere i d)))
    where
      elsewhere : (i : ℕ) → (i ≡ j → ⊥) → released-below j i ≡ released-below (j + 1) i
      elsewhere i d =
          by_cases (dec_lt i j)
          (λ (h : i < j). below_in j i h ∙ sym (below_in (j + 1) i (omega arith)))
          (λ (h : ¬ (i < j)). below_out j i (omega arith) ∙ sym (below_out (j + 1) i (omega arith)))

  -- all members are below n
  pub below_all : (n : ℕ) → set < 2 ^ n → released-below n ≡ releasing set lanes
  below_all n small =
      fun_ext (λ i.
      by_cases (dec_lt i n)
      (λ (h : i < n). below_in n i h)
      (λ (h : ¬ (i < n)). below_out n i (omega arith) ∙ sym (releasing_other set lanes i (member_below n set i small (omega arith)))))
