-- What the check has found, put together into its answer.
-- Assumes nothing.
use mathlib.Core.Bool.{Bool, true, false, cond, ◌&&◌}
use mathlib.Core.List.{List}
use mathlib.Core.Path.{◌≡◌, sym, ◌∙◌}
use Prim.Native.Nat.{ℕ, ◌+◌, ◌≤◌, ◌<◌}
use native.Mathlib.Omega.{arith}
use lib.Dec.{leb}
use lib.ListN.{get_or}
use lib.Pow.{ones_lt}
use borrow.Author.Tests.{eq-eqb, ne_eqb, leb-true, le-ltb}
use Rattle.std.specs.Prelude.{Ok, Err}
use Rattle.lists.specs.Cut.{cut}
use Rattle.lists.proofs.Tests.{and_left}
use Rattle.refusals.specs.Numbers.{number_of}
use Rattle.refusals.specs.declared.Refusal.{Refusal}
use Rattle.refusals.proofs.Outcomes.{some_number}
use Rattle.stations.specs.Sets.{everyone}
use Rattle.quorum.specs.Answer.{refused, answer_to, answer, said}
use Rattle.quorum.specs.Even.{is_even, even}
use Rattle.quorum.specs.FirstFamily.{first_family}
use Rattle.quorum.specs.Inner.Need.{Needs, no_need, size_of}
use Rattle.quorum.specs.Limits.{broken_limit}
use Rattle.quorum.specs.Nested.{nested}
use Rattle.quorum.specs.Refusal.{refusal}
use Rattle.quorum.specs.Scratch.{scratch_bytes}
use Rattle.quorum.specs.Width.{width, lacks_common}
use Rattle.quorum.specs.declared.Rejected.TheVariants.{Refused, NoCommonMember, Nested}
use Rattle.quorum.proofs.LimitLaws.{limits_kept, limit_most}
use Rattle.quorum.proofs.Needing.{need_width}
use Rattle.quorum.proofs.Refusals.{refusal_limit, refusal_five, refusal_six, refusal_later}

-- ---- the refusals 1 to 5

-- an answer without width
without-width : (n : ℕ) (table : List ℕ) (r : ℕ) → (r ≡ 0 → ⊥) → r ≤ 5 → refused r ≡ answer_to n table r
unfolding answer_to
without-width n table r some small = rw (ne_eqb r 0 some, ne_eqb r 6 (λ e. omega arith), ne_eqb r 7 (λ e. omega arith))

module _ (n k : ℕ) (table : List ℕ) (room : ℕ) where
  pub limit_broken : (r : Refusal) → number_of r ≡ broken_limit n k table → said (Err (Refused r)) ≡ answer n k table room
  unfolding answer
  limit_broken r is =
      let some : number_of r ≡ 0 → ⊥ = some_number r in
      rw (refusal_limit n k table room (λ e. some (is ∙ e)), ← is) (without-width n table (number_of r) some (omega (arith, limit_most n k table)))

  module _ (kept : broken_limit n k table ≡ 0) where
    pub scratch_short : room < scratch_bytes → refused 5 ≡ answer n k table room
    unfolding answer answer_to
    scratch_short short = rw (refusal_five n k table room kept short)

    -- more scratch changes nothing
    pub answer-enough : scratch_bytes ≤ room → answer n k table scratch_bytes ≡ answer n k table room
    unfolding answer refusal
    answer-enough enough = rw (le-ltb room scratch_bytes enough)

    -- ---- on enough scratch, with the byte of every set

    module _ (enough : scratch_bytes ≤ room) (bytes : List ℕ) (needs : Needs n table bytes) (w : ℕ) (size : w ≡ size_of (get_or bytes (everyone n) 0)) where
      pub width-found : w ≡ width n table
      width-found =
          let limits = limits_kept n k table kept in
          size ∙ sym (need_width n table limits.stations.1 limits.stations.0 (get_or bytes (everyone n) 0) (needs (everyone n) (ones_lt n)))

      -- a table that lacks a common member has a width, so its byte says one
      pub byte_finite : (leb 2 w && leb w (k + 1)) ≡ true → get_or bytes (everyone n) 0 ≡ no_need → ⊥
      byte_finite lacks none =
          let nothing : size_of (get_or bytes (everyone n) 0) ≡ 0 = rw (eq-eqb (get_or bytes (everyone n) 0) no_need none) in
          omega (arith, leb-true 2 w (and_left (leb 2 w) (leb w (k + 1)) lacks))

      pub six : (leb 2 w && leb w (k + 1)) ≡ true → (family : List ℕ) → cut 0 (get_or bytes (everyone n) 0) family ≡ first_family n table → (e : Bool) → e ≡ is_even n table
          → said (Err (NoCommonMember w e family)) ≡ answer n k table room
      unfolding answer answer_to even lacks_common
      six lacks family first e balanced =
          let byte : w ≡ get_or bytes (everyone n) 0 = size ∙ rw (ne_eqb (get_or bytes (everyone n) 0) no_need (byte_finite lacks)) in
          let six : (leb 2 (width n table) && leb (width n table) (k + 1)) ≡ true = rw width-found at lacks in
          rw (balanced, refusal_six n k table room kept enough six, ← first, ← byte, ← width-found)

      module _ (has : (leb 2 w && leb w (k + 1)) ≡ false) where
        later : refusal n k table room ≡ cond (nested table) 7 0
        unfolding lacks_common
        later = refusal_later n k table room kept enough (rw width-found at has)

        pub seven : nested table ≡ true → said (Err (Nested w)) ≡ answer n k table room
        unfolding answer answer_to
        seven is = rw (later, is, ← width-found)

        pub accepted : nested table ≡ false → (e : Bool) → e ≡ is_even n table → said (Ok (record { width = w; even = e })) ≡ answer n k table room
        unfolding answer answer_to even
        accepted is e balanced = rw (balanced, later, is, ← width-found)
