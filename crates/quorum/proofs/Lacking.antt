-- A table lacks a common member exactly when some k + 1 quorums, repeats allowed, have none; and the family of refusal 6.
-- Assumes nothing.
use mathlib.Core.Bool.{true}
use mathlib.Core.List.{List, ◌∷◌}
use mathlib.Core.Logic.{◌↔◌, ⊎_elim}
use mathlib.Core.Path.{◌≡◌, refl, ap, ◌∙◌}
use Prim.Native.Nat.{ℕ, zero, suc, ◌+◌, ◌-◌, ◌≤◌, ◌<◌}
use native.Mathlib.Omega.{arith}
use lib.Dec.{leb}
use lib.ListN.{length}
use borrow.Author.Tests.{leb-true}
use Rattle.lists.proofs.Tests.{and_left, and_right}
use Rattle.stations.specs.Sets.{everyone}
use Rattle.stations.proofs.Members.{and_again}
use Rattle.quorum.specs.Arbiter.{Common}
use Rattle.quorum.specs.Family.{quorum, common_within, common_part, empty_within, Numbers}
use Rattle.quorum.specs.FirstFamily.{first_family}
use Rattle.quorum.specs.Inner.Need.{Emptying}
use Rattle.quorum.specs.Limits.{broken_limit}
use Rattle.quorum.specs.Width.{width, lacks_common}
use Rattle.quorum.proofs.CommonMember.{common-or_empty, common-not_empty, emptying_lacks}
use Rattle.quorum.proofs.Families.{First}
use Rattle.quorum.proofs.LimitLaws.{limits_kept}
use Rattle.quorum.proofs.Widths.{Width, width_is, emptied-list, first_at_width}

-- ---- repeats of the first quorum change nothing

repeated : (table : List ℕ) (s : ℕ) (f : List ℕ) → Numbers (length table) f → common_within table s f ≡ 0 → 0 < length f
    → (g : Emptying table s) × (length g.list ≡ suc (length f))
unfolding common_within
repeated table s f Numbers.none empties some = absurd (omega arith)
repeated table s f (Numbers.and {p} {f = g} lt rest) empties some = (
  record {
    list = p ∷ p ∷ g;
    numbers = Numbers.and lt (Numbers.and lt rest);
    empties = ap (λ (x : ℕ). common_within table x g) (and_again s (quorum table p)) ∙ empties;
  },
  refl,
)

padded : (table : List ℕ) (s more : ℕ) (e : Emptying table s) → 0 < length e.list
    → (g : Emptying table s) × (length g.list ≡ more + length e.list)
padded table s zero e some = (e, omega arith)
padded table s (suc more) e some =
    let (g, size) = padded table s more e some in
    let (h, size') = repeated table s g.list g.numbers g.empties (omega arith) in
    (h, omega arith)

-- k + 1 quorums, repeats allowed, without a common station
pub record Without (n k : ℕ) (table : List ℕ) : Type 0 where
  pub list : List ℕ
  pub numbers : Numbers (length table) list
  pub size : length list ≡ k + 1
  pub none : Common n table list → ⊥

-- the width of a table that lacks a common member
pub lacks_width : (n k : ℕ) (table : List ℕ) → lacks_common n k table ≡ true → (2 ≤ width n table) × (width n table ≤ k + 1)
unfolding lacks_common
lacks_width n k table e = (
  leb-true 2 (width n table) (and_left (leb 2 (width n table)) (leb (width n table) (k + 1)) e),
  leb-true (width n table) (k + 1) (and_right (leb 2 (width n table)) (leb (width n table) (k + 1)) e),
)

module _ (n k : ℕ) (table : List ℕ) (kept : broken_limit n k table ≡ 0) where
  lacks_without : lacks_common n k table ≡ true → Without n k table
  lacks_without e = go (width_is n table (limits_kept n k table kept).stations.0)
    where
      low : 2 ≤ width n table
      low = (lacks_width n k table e).0

      high : width n table ≤ k + 1
      high = (lacks_width n k table e).1

      go : Width n table (width n table) → Without n k table
      go (Width.nothing z never) = absurd (omega (arith, low))
      go (Width.least some t bound) =
          let (f, size) = emptied-list table (everyone n) (width n table) t in
          let (g, more) = padded table (everyone n) (k + 1 - width n table) f (omega arith) in
          record { list = g.list; numbers = g.numbers; size = omega (arith, high); none = λ c. common-not_empty n table g.list c g.empties }

  without_lacks : Without n k table → lacks_common n k table ≡ true
  without_lacks w =
      ⊎_elim (λ c. absurd (w.none c))
      (λ (e : common_part n table w.list ≡ 0). emptying_lacks n k table kept (record { list = w.list; numbers = w.numbers; empties = e }) (omega (arith, w.size)))
      (common-or_empty n table w.list)

  -- "a table then lacks a common member when 2 ≤ width ≤ k + 1": exactly when some k + 1 quorums have none
  pub lacks_iff : (lacks_common n k table ≡ true) ↔ Without n k table
  lacks_iff = (lacks_without, without_lacks)

  -- the family of refusal 6 is ascending, of size width, without common member, and no such family comes before it in dictionary order
  pub first_family_is : lacks_common n k table ≡ true → First (empty_within table (everyone n)) (length table) 0 (width n table) (first_family n table)
  first_family_is e = first_at_width n table (limits_kept n k table kept).stations.0 (omega (arith, (lacks_width n k table e).0))
