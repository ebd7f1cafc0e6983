-- The one fact that the machine uses of an accepted table: any quorums, at most k + 1 and repeats allowed, have a common station below n.
-- Assumes nothing.
use mathlib.Core.Bool.{true, false, ◌&&◌}
use mathlib.Core.List.{List, [], ◌∷◌}
use mathlib.Core.Logic.{◌⊎◌, inl, inr, ⊎_elim, by_cases}
use mathlib.Core.Path.{◌≡◌, sym, ap, ◌∙◌}
use Prim.Native.Nat.{ℕ, ◌+◌, ◌≤◌}
use native.Mathlib.Decide.{ℕ_discrete}
use native.Mathlib.Nat.{lt_of_le_of_lt}
use native.Mathlib.Omega.{arith}
use lib.Bits.{and_comm}
use lib.Dec.{leb}
use lib.ListN.{length}
use lib.Pow.{ones_lt}
use borrow.Author.Tests.{le-leb}
use Rattle.lists.proofs.Tests.{clash, and_both}
use Rattle.stations.specs.Member.{member}
use Rattle.stations.specs.Sets.{everyone}
use Rattle.stations.proofs.Members.{some-member, member-station, member-everyone, everyone-and, member-zero}
use Rattle.quorum.specs.Arbiter.{Common}
use Rattle.quorum.specs.Family.{quorum, common_within, common_part, Numbers}
use Rattle.quorum.specs.Inner.Need.{Emptying}
use Rattle.quorum.specs.Limits.{broken_limit}
use Rattle.quorum.specs.Width.{width, lacks_common}
use Rattle.quorum.proofs.CommonParts.{common-le, common-members, members-common}
use Rattle.quorum.proofs.LimitLaws.{Limits, limits_kept}
use Rattle.quorum.proofs.Widths.{Width, width_is, emptied-list}

-- ---- a list of quorums has a common station, or its common part is empty

pub common-or_empty : (n : ℕ) (table f : List ℕ) → Common n table f ⊎ (common_part n table f ≡ 0)
common-or_empty n table f =
    by_cases (ℕ_discrete (common_part n table f) 0) (λ (e : common_part n table f ≡ 0). inr e)
    (λ (some : common_part n table f ≡ 0 → ⊥).
    let (i, m) = some-member (common_part n table f) some in
    inl (record {
      station = i;
      below = member-station n (common_part n table f) i (lt_of_le_of_lt (common-le table (everyone n) f) (ones_lt n)) m;
      in_all = (common-members table (everyone n) i f m).1;
    }))

pub common-not_empty : (n : ℕ) (table f : List ℕ) → Common n table f → common_part n table f ≡ 0 → ⊥
common-not_empty n table f c e =
    clash (members-common table (everyone n) c.station f (member-everyone n c.station c.below) c.in_all)
    (ap (λ (q : ℕ). member q c.station) e ∙ member-zero c.station)

module _ (n k : ℕ) (table : List ℕ) (kept : broken_limit n k table ≡ 0) where
  limits : Limits n k table
  limits = limits_kept n k table kept

  -- one quorum has a common station: itself
  pub not-one : (e : Emptying table (everyone n)) → length e.list ≡ 1 → ⊥
  unfolding common_within
  not-one e size = go e.list e.numbers e.empties size
    where
      go : (f : List ℕ) → Numbers (length table) f → common_within table (everyone n) f ≡ 0 → length f ≡ 1 → ⊥
      go f Numbers.none empties size = omega arith
      go f (Numbers.and {p} {f = []} lt rest) empties size =
          (limits.members p lt).0
          (sym (everyone-and n (quorum table p) (limits.members p lt).1) ∙ and_comm (quorum table p) (everyone n) ∙ empties)
      go f (Numbers.and {p} {f = q ∷ g} lt rest) empties size = omega arith

  -- the width is never 1
  pub width-not-one : width n table ≡ 1 → ⊥
  width-not-one e = go (width_is n table limits.stations.0)
    where
      go : Width n table (width n table) → ⊥
      go (Width.nothing z never) = omega arith
      go (Width.least some t bound) = let (e', size) = emptied-list table (everyone n) (width n table) t in not-one e' (size ∙ e)

  -- quorums without a common station, at most k + 1 of them, are a lack of one
  pub emptying_lacks : (e : Emptying table (everyone n)) → length e.list ≤ k + 1 → lacks_common n k table ≡ true
  unfolding lacks_common
  emptying_lacks e short = go (width_is n table limits.stations.0)
    where
      go : Width n table (width n table) → (leb 2 (width n table) && leb (width n table) (k + 1)) ≡ true
      go (Width.nothing z never) = absurd (never e)
      go (Width.least some t bound) =
          let two : width n table ≡ 1 → ⊥ = width-not-one in
          and_both (le-leb 2 (width n table) (omega arith)) (le-leb (width n table) (k + 1) (omega (arith, bound e)))

  -- where no common member is lacking, at most k + 1 quorums, repeats allowed, have a common station below n
  pub common-member : lacks_common n k table ≡ false → (f : List ℕ) → Numbers (length table) f → length f ≤ k + 1 → Common n table f
  common-member has f numbers short =
      ⊎_elim (λ c. c)
      (λ (e : common_part n table f ≡ 0). absurd (clash (emptying_lacks (record { list = f; numbers = numbers; empties = e }) short) has))
      (common-or_empty n table f)
