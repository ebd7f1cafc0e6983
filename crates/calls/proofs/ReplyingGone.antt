-- GONE, which goes down to the sender of a WITHDRAW before any grant.
-- Assumes nothing.
use mathlib.Core.Bool.{true, false}
use mathlib.Core.List.{List, [], ◌∷◌, ◌++◌}
use mathlib.Core.Path.{◌≡◌, refl}
use Prim.Native.Nat.{ℕ, ◌+◌, ◌≤◌, ◌<◌}
use native.Mathlib.Omega.{arith}
use lib.ListN.{length, length-append}
use borrow.Author.Tests.{eq-eqb, lt-ltb}
use Rattle.lists.specs.At.{at2}
use Rattle.lists.specs.Search.{some_below}
use Rattle.lists.proofs.Changed.{at2-same, at2-all}
use Rattle.lists.proofs.Searches.{some_at}
use Rattle.lists.proofs.Tests.{clash}
use Rattle.plain.specs.Arbiter.{grants_to}
use Rattle.plain.specs.Lanes.{down_places, passes, sent}
use Rattle.plain.specs.Up.{replying, granting}
use Rattle.plain.specs.declared.Entry.{Entry}
use Rattle.plain.specs.declared.Message.{Message}
use Rattle.plain.specs.declared.Message.TheVariants.{Request, Release, Grant, Withdraw, Gone}
use Rattle.calls.specs.Inner.Parts.{is_withdrawal}

module _ (lanes : ℕ → ℕ → List Message) (s j : ℕ) where
  -- the lanes with GONE
  abbrev pub with_gone : ℕ → ℕ → List Message
  with_gone = at2 lanes s j (sent (lanes s j) Gone)

  pub reply_gone : (m : Message) → is_withdrawal m ≡ true → replying m lanes s j ≡ with_gone
  unfolding replying
  reply_gone (Request h) e = absurd (clash e refl)
  reply_gone Release e = absurd (clash e refl)
  reply_gone Withdraw e = refl
  reply_gone Grant e = absurd (clash e refl)
  reply_gone Gone e = absurd (clash e refl)

  pub reply_none : (m : Message) → is_withdrawal m ≡ false → replying m lanes s j ≡ lanes
  unfolding replying
  reply_none (Request h) e = refl
  reply_none Release e = refl
  reply_none Withdraw e = absurd (clash refl e)
  reply_none Grant e = refl
  reply_none Gone e = refl

  longer : length (sent (lanes s j) Gone) ≡ length (lanes s j) + 1
  longer = length-append (lanes s j) (Gone ∷ [])

  -- where the sender's lane has room, all lanes from j keep their limit
  pub gone_room : (n : ℕ) → ((t : ℕ) → t < n → length (lanes t j) ≤ down_places) → length (lanes s j) < down_places → (t : ℕ) → t < n → length (with_gone t j) ≤ down_places
  gone_room n room more t l =
      at2-all (λ lane. length lane ≤ down_places) lanes s j (sent (lanes s j) Gone) (omega (arith, longer)) t j (λ o. room t l)

  -- where it has none it would pass its limit, whatever is granted then
  pub gone_passes : (n : ℕ) (grants : List Entry) → s < n → down_places ≤ length (lanes s j) → some_below (λ t. passes down_places (granting with_gone j grants t j)) n ≡ true
  unfolding granting
  gone_passes n grants l full =
      some_at (λ t. passes down_places (granting with_gone j grants t j)) n s l
      (rw (eq-eqb j j refl, at2-same lanes s j (sent (lanes s j) Gone))
      (lt-ltb down_places (length (sent (lanes s j) Gone ++ grants_to s grants)) (omega (arith, longer, length-append (sent (lanes s j) Gone) (grants_to s grants)))))
