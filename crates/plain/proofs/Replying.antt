-- What goes down to the sender of a message, before the line is served.
-- Assumes nothing.
use mathlib.Core.Bool.{true}
use mathlib.Core.List.{List, [], ◌∷◌}
use mathlib.Core.Path.{◌≡◌, refl}
use Prim.Native.Nat.{ℕ}
use Rattle.lists.specs.Search.{all}
use Rattle.lists.proofs.Changed.{at2-same, at2_other, at2-all}
use Rattle.lists.proofs.Searches.{all_append}
use Rattle.plain.specs.InRange.{goes_down}
use Rattle.plain.specs.Lanes.{sent}
use Rattle.plain.specs.Up.{replying}
use Rattle.plain.specs.declared.Message.{Message}
use Rattle.plain.specs.declared.Message.TheVariants.{Request, Release, Grant, Withdraw, Gone}

-- the lane down to the sender: GONE behind what is in it, where it has withdrawn
unfoldable pub replied : Message → List Message → List Message
replied (Request h) down = down
replied Release down = down
replied Withdraw down = sent down Gone
replied Grant down = down
replied Gone down = down

module _ (lanes : ℕ → ℕ → List Message) (s j : ℕ) where
  pub replying_own : (m : Message) → replying m lanes s j s j ≡ replied m (lanes s j)
  unfolding replying replied
  replying_own (Request h) = refl
  replying_own Release = refl
  replying_own Withdraw = at2-same lanes s j (sent (lanes s j) Gone)
  replying_own Grant = refl
  replying_own Gone = refl

  -- and no other lane
  pub replying_other : (m : Message) (t x : ℕ) → (t ≡ s → x ≡ j → ⊥) → replying m lanes s j t x ≡ lanes t x
  unfolding replying
  replying_other (Request h) t x d = refl
  replying_other Release t x d = refl
  replying_other Withdraw t x d = at2_other lanes s j (sent (lanes s j) Gone) t x d
  replying_other Grant t x d = refl
  replying_other Gone t x d = refl

  -- what goes down may go down
  pub replying-down : (m : Message) (t x : ℕ) → all goes_down (lanes s j) ≡ true → all goes_down (lanes t x) ≡ true → all goes_down (replying m lanes s j t x) ≡ true
  unfolding replying goes_down
  replying-down (Request h) t x own it = it
  replying-down Release t x own it = it
  replying-down Withdraw t x own it =
      at2-all (λ l. all goes_down l ≡ true) lanes s j (sent (lanes s j) Gone) (all_append goes_down (lanes s j) (Gone ∷ []) own refl) t x (λ d. it)
  replying-down Grant t x own it = it
  replying-down Gone t x own it = it
