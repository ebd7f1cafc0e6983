-- The places in use of an array, as the slice that has these places.
-- Assumes nothing.
use mathlib.Core.Bool.{Bool}
use mathlib.Core.List.{List}
use mathlib.Core.Path.{◌≡◌, sym, ap, ◌∙◌}
use native.Mathlib.Nat.{sub-zero}
use Prim.Native.Nat.{ℕ, ◌≤◌}
use lib.ListN.{length, take}
use Rattle.std.specs.List.{slice_range}
use Rattle.lists.specs.Cut.{cut}
use Rattle.lists.specs.Search.{all, every_below}
use Rattle.lists.specs.Shown.{shown}
use Rattle.lists.proofs.Arrays.{every_shown}
use Rattle.lists.proofs.Cuts.{all-cut, cut-take}

-- the slice from its front
pub front_cut : {A : Type 0} (d : A) (n : ℕ) (xs : List A) → n ≤ length xs → slice_range xs 0 n ≡ cut d n xs
front_cut d n xs h = rw sub-zero (sym (cut-take d n xs h))

-- a test of all its places
pub every_in_slice : {A B : Type 0} (n : ℕ) (none : B) (f : A → B) (d : A) (test : B → Bool) (xs : List A) → n ≤ length xs
    → every_below (λ i. test (shown n none f d xs i)) n ≡ all (λ x. test (f x)) (take n xs)
every_in_slice n none f d test xs h =
    every_shown n none f d test xs
    ∙ sym (all-cut d (λ x. test (f x)) n xs)
    ∙ ap (all (λ x. test (f x))) (cut-take d n xs h)

-- an array with a length beside it and its slice, each as the other
pub ruleset fronts = (cut-take, front_cut)
