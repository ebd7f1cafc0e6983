-- All that the crates above may use of the table check. They import no other file of these proofs.
-- Assumes nothing.
use mathlib.Core.Bool.{true}
use mathlib.Core.List.{List}
use mathlib.Core.Path.{◌≡◌}
use Prim.Native.Nat.{ℕ, ◌+◌, ◌≤◌}
use native.Mathlib.Omega.{arith}
use lib.ListN.{length}
use borrow.Author.Tests.{eqb-true}
use Rattle.quorum.specs.Arbiter.{Common}
use Rattle.quorum.specs.Family.{Numbers, common_part}
use Rattle.quorum.specs.FirstFamily.{first_family}
use Rattle.quorum.specs.Limits.{broken_limit}
use Rattle.quorum.specs.Width.{lacks_common}
use Rattle.quorum.proofs.CommonMember.{common-not_empty}
use Rattle.quorum.proofs.Lacking.{lacks_width, first_family_is}
use Rattle.quorum.proofs.Sorted.{family-numbers}
use Rattle.quorum.proofs.Widths.{width-le-n}
use Rattle.quorum.proofs.LimitLaws.{limits_kept}
-- The limits kept: `Limits` is what the tests 1 to 4 say in numbers, and a table keeps it exactly where none of them is broken.
pub use Rattle.quorum.proofs.LimitLaws.{Limits, limits_kept, kept_limits, up_to_lem}
-- The common member: where 6 is passed, any quorums, at most k + 1 of them and repeats allowed, have a station in common.
pub use Rattle.quorum.proofs.CommonMember.{common-member}
-- An accepted table, and a check that refuses nothing, lent enough scratch: each gives the other. So does a k-arbiter within the limits.
pub use Rattle.quorum.proofs.Accepts.{passed, passed_limits, passes, arbiter_accepted}
-- The answer says the refusal that the tests lead to; and how large its numbers can be, those of its family included.
pub use Rattle.quorum.proofs.Refusals.{answer-refusal, said-refusal}
pub use Rattle.quorum.proofs.AnswerBounds.{Bounds, answer_bounds}
pub use Rattle.quorum.proofs.Sorted.{family-numbers, family-length}
-- "It never passes n", and a table that lacks a common member has a width of 2 to k + 1.
pub use Rattle.quorum.proofs.Lacking.{lacks_width}
pub use Rattle.quorum.proofs.Widths.{width-le-n}
-- Even is 1 exactly on symmetric tables; and for those who show that a table of theirs is one: the quorums that a station belongs to, counted by their
-- numbers, and among all numbers that pass a test.
pub use Rattle.quorum.proofs.CheckEven.{symmetric_even, even_iff}
pub use Rattle.quorum.proofs.Evenness.{belongs-numbers, belongs_listed}
-- For those who show that a table of theirs is a k-arbiter: quorums by their places, and their common part.
pub use Rattle.quorum.proofs.CommonMember.{common-or_empty}
pub use Rattle.quorum.proofs.CommonParts.{in_every, number_at}

-- The lacking family: quorums without a common station, 2 to k + 1 of them, and no more than stations.
pub record LackingFamily (n k : ℕ) (table f : List ℕ) : Type 0 where
  pub numbers : Numbers (length table) f
  pub two : 2 ≤ length f
  pub few : length f ≤ k + 1
  pub stations : length f ≤ n
  pub none : Common n table f → ⊥

-- where 6 is failed, the family that the check answers is one
pub lacking_family : (n k : ℕ) (table : List ℕ) → broken_limit n k table ≡ 0 → lacks_common n k table ≡ true → LackingFamily n k table (first_family n table)
lacking_family n k table kept lacks =
    let first = first_family_is n k table kept lacks in
    let size = lacks_width n k table lacks in
    record {
      numbers = family-numbers first.family;
      two = omega (arith, first.size, size.0);
      few = omega (arith, first.size, size.1);
      stations = omega (arith, first.size, width-le-n n table (limits_kept n k table kept).stations.0);
      none = λ c. common-not_empty n table (first_family n table) c (eqb-true (common_part n table (first_family n table)) 0 first.holds);
    }
