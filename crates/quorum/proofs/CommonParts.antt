-- The common part of a list of quorums: its members, its order, its repeats.
-- Assumes nothing.
use mathlib.Core.Bool.{true}
use mathlib.Core.List.{List, [], ◌∷◌}
use mathlib.Core.Path.{◌≡◌, refl, sym, ◌∙◌}
use Prim.Native.Nat.{ℕ, zero, suc, ◌≤◌, ◌<◌}
use native.Mathlib.Nat.{le_trans, le_refl}
use native.Mathlib.Omega.{arith}
use lib.Bits.{bit_and, and_le_l, and_zero_l}
use lib.ListN.{length, get_or}
use Rattle.lists.proofs.Tests.{and_left, and_right, and_both}
use Rattle.stations.specs.Member.{member}
use Rattle.stations.proofs.Members.{member-and, and_swap}
use Rattle.quorum.specs.Arbiter.{InAll}
use Rattle.quorum.specs.Family.{quorum, common_within, Numbers}

module _ (table : List ℕ) where
  pub common-le : (s : ℕ) (f : List ℕ) → common_within table s f ≤ s
  unfolding common_within
  common-le s [] = le_refl s
  common-le s (p ∷ f) = le_trans (common-le (bit_and s (quorum table p)) f) (and_le_l s (quorum table p))

  pub common-zero : (f : List ℕ) → common_within table 0 f ≡ 0
  unfolding common_within
  common-zero [] = refl
  common-zero (p ∷ f) = rw (and_zero_l (quorum table p)) (common-zero f)

  -- a quorum first is a quorum last
  pub common-and : (s a : ℕ) (f : List ℕ) → common_within table (bit_and s a) f ≡ bit_and (common_within table s f) a
  unfolding common_within
  common-and s a [] = refl
  common-and s a (p ∷ f) = rw (and_swap s a (quorum table p)) (common-and (bit_and s (quorum table p)) a f)

  -- a station is in the common part exactly when it is in s and in every quorum
  pub common-members : (s i : ℕ) (f : List ℕ) → member (common_within table s f) i ≡ true → (member s i ≡ true) × InAll table i f
  unfolding common_within
  common-members s i [] m = (m, InAll.none)
  common-members s i (p ∷ f) m =
      let (both, rest) = common-members (bit_and s (quorum table p)) i f m in
      let pair = sym (member-and s (quorum table p) i) ∙ both in
      (and_left (member s i) (member (quorum table p) i) pair, InAll.and (and_right (member s i) (member (quorum table p) i) pair) rest)

  pub members-common : (s i : ℕ) (f : List ℕ) → member s i ≡ true → InAll table i f → member (common_within table s f) i ≡ true
  unfolding common_within
  members-common s i [] m all = m
  members-common s i (p ∷ f) m (InAll.and q rest) =
      members-common (bit_and s (quorum table p)) i f (member-and s (quorum table p) i ∙ and_both m q) rest

  -- a station that is in the quorum of every place of a list is in all of them
  pub in_every : (i : ℕ) (f : List ℕ) → ((j : ℕ) → j < length f → member (quorum table (get_or f j 0)) i ≡ true) → InAll table i f
  in_every i [] h = InAll.none
  in_every i (p ∷ f) h = InAll.and (h 0 (omega arith)) (in_every i f (λ j l. h (suc j) (omega arith)))

-- the quorum number at a place
pub number_at : (m : ℕ) (f : List ℕ) → Numbers m f → (j : ℕ) → j < length f → get_or f j 0 < m
number_at m f Numbers.none j h = absurd (omega arith)
number_at m f (Numbers.and lt rest) zero h = lt
number_at m f (Numbers.and {f = g} lt rest) (suc j) h = number_at m g rest j (omega arith)
