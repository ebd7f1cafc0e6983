-- A message that reaches an arbiter, as the code stores it.
-- Assumes nothing.
use mathlib.Core.Bool.{true, false}
use mathlib.Core.List.{List, ◌∷◌, []}
use mathlib.Core.Path.{◌≡◌, ap, ◌∙◌}
use Prim.Native.Nat.{ℕ, ◌+◌, ◌≤◌, ◌<◌}
use native.Mathlib.Omega.{arith}
use lib.ListN.{length, set, length-append}
use borrow.Author.Tests.{lt-ltb, le-ltb}
use Rattle.lists.specs.Cut.{cut}
use Rattle.lists.proofs.Cuts.{length_cut, cut_push}
use Rattle.units.specs.Units.{no_units}
use Rattle.units.specs.declared.Units.{Units}
use Rattle.units.proofs.Granting.{granted_with}
use Rattle.plain.specs.Arbiter.{without, arrived}
use Rattle.plain.specs.Lanes.{line_places, passes}
use Rattle.plain.specs.declared.Entry.{Entry}
use Rattle.plain.specs.declared.Message.{Message}
use Rattle.plain.specs.declared.Message.TheVariants.{Request, Release, Withdraw}
use Rattle.plain.proofs.Dropping.{without-short}
use Rattle.records.specs.View.{no_entry, arbiter_of}
use Rattle.records.specs.declared.Arbiter.{Arbiter}

pub line-length : (n : ℕ) (a : Arbiter) → length (arbiter_of n a).line ≡ a.len
unfolding arbiter_of
line-length n a = length_cut no_entry a.len a.line

-- ---- whether the line would pass its limit

module _ (n s : ℕ) (h : Units) (a : Arbiter) where
  request-length : length (arrived (Request h) s (arbiter_of n a)).line ≡ a.len + 1
  unfolding arrived
  request-length = length-append (arbiter_of n a).line (record { station = s; units = h } ∷ []) ∙ ap (λ (l : ℕ). l + 1) (line-length n a)

  pub request-passes : line_places ≤ a.len → passes line_places (arrived (Request h) s (arbiter_of n a)).line ≡ true
  request-passes l = rw request-length (lt-ltb line_places (a.len + 1) (omega arith))

  pub request-room : a.len < line_places → passes line_places (arrived (Request h) s (arbiter_of n a)).line ≡ false
  request-room l = rw request-length (le-ltb line_places (a.len + 1) (omega arith))

-- no other message takes a place
pub others-room : (n s : ℕ) (m : Message) (a : Arbiter) → length (arrived m s (arbiter_of n a)).line ≤ length (arbiter_of n a).line → a.len ≤ line_places
    → passes line_places (arrived m s (arbiter_of n a)).line ≡ false
others-room n s m a l h = le-ltb line_places (length (arrived m s (arbiter_of n a)).line) (omega (arith, line-length n a))

pub withdraw-room : (n s : ℕ) (a : Arbiter) → a.len ≤ line_places → passes line_places (arrived Withdraw s (arbiter_of n a)).line ≡ false
unfolding arrived
withdraw-room n s a h = others-room n s Withdraw a (without-short s (arbiter_of n a).line) h

-- ---- what is stored

pub request_joins : (n s : ℕ) (h : Units) (a : Arbiter) → length a.line ≡ line_places → a.len < line_places
    → arbiter_of n (record { granted = a.granted; len = a.len + 1; line = set a.line a.len (record { station = s; units = h }) }) ≡ arrived (Request h) s (arbiter_of n a)
unfolding arbiter_of arrived
request_joins n s h a e l =
    let l' : a.len < length a.line = omega arith in
    rw (cut_push no_entry a.len a.line (record { station = s; units = h }) l')

pub release_clears : (n s : ℕ) (a : Arbiter) → s < n → s < length a.granted
    → arbiter_of n (record { granted = set a.granted s no_units; len = a.len; line = a.line }) ≡ arrived Release s (arbiter_of n a)
unfolding arbiter_of arrived
release_clears n s a p q = rw (granted_with n a.granted s no_units p q)

pub withdraw-drops : (n s : ℕ) (a : Arbiter) (len : ℕ) (line : List Entry) → s < n → s < length a.granted → cut no_entry len line ≡ without s (cut no_entry a.len a.line)
    → arbiter_of n (record { granted = set a.granted s no_units; len = len; line = line }) ≡ arrived Withdraw s (arbiter_of n a)
unfolding arbiter_of arrived
withdraw-drops n s a len line p q e = rw (granted_with n a.granted s no_units p q, e)

-- for the function that stores it
pub ruleset arriving = (request-passes, request-room, others-room, withdraw-room, request_joins, release_clears)
