-- What cleaning leaves of a scratch.
-- Assumes nothing.
use mathlib.Core.List.{List, ◌++◌}
use mathlib.Core.Path.{◌≡◌, sym, ap, ◌∙◌}
use Prim.Native.Nat.{ℕ, ◌≤◌, ◌<◌}
use native.Mathlib.Omega.{arith}
use lib.ListN.{length, take, drop, replicate, length-append}
use Rattle.std.proofs.lemmas.Slice.{drop-append-drop}
use lib.Seq.{length-take-le}
use borrow.Author.Tests.{lt-ltb, le-ltb}
use Rattle.quorum.specs.Scratch.{zeroed}

pub zeroed-short : (bytes : ℕ) (s : List ℕ) → length s < bytes → zeroed bytes s ≡ s
unfolding zeroed
zeroed-short bytes s h = rw (lt-ltb (length s) bytes h)

pub zeroed_long : (bytes : ℕ) (s : List ℕ) → bytes ≤ length s → zeroed bytes s ≡ replicate bytes 0 ++ drop bytes s
unfolding zeroed
zeroed_long bytes s h = rw (le-ltb (length s) bytes h)

-- the first bytes filled with zeros
pub zeroed-front : (bytes : ℕ) (s : List ℕ) → bytes ≤ length s → replicate (length (take bytes s)) 0 ++ drop bytes s ≡ zeroed bytes s
zeroed-front bytes s h = rw (length-take-le bytes s h) (sym (zeroed_long bytes s h))

-- what was written in the first bytes is gone
pub zeroed-same : (bytes : ℕ) (s front : List ℕ) → length front ≡ bytes → bytes ≤ length s → zeroed bytes (front ++ drop bytes s) ≡ zeroed bytes s
zeroed-same bytes s front size h =
    zeroed_long bytes (front ++ drop bytes s) (omega (arith, length-append front (drop bytes s)))
    ∙ ap (λ (l : List ℕ). replicate bytes 0 ++ l) (drop-append-drop bytes s front bytes (omega arith) size)
    ∙ sym (zeroed_long bytes s h)
