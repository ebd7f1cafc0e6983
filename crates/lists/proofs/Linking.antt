-- The table of a program's functions, by their names, with some functions in front of it: what is in front is found by computing, and every other name
-- has what the table has.
-- Assumes nothing.
use mathlib.Core.List.{List, [], ◌∷◌}
use mathlib.Core.Logic.{◌⊎◌, inl, inr, ⊎_elim}
use mathlib.Core.Path.{◌≡◌, refl}
use Prim.Native.Nat.{Ordering, lt, eq, gt}
use Prim.Native.String.{compare}
use text.Mathlib.TextEquality.{path_by_compare}
use lib.Chars.{codes}
use mir.Syntax.{Symbol}
use prog.Linked.{Entry, Tree, World, Holds, crate_of, in_table, in_tree, in_world}

-- by the order of their names: one out of order is hidden by the table
abbrev pub in_front : List (Symbol × Entry) → Tree → Tree
in_front [] t = t
in_front ((s, e) ∷ front) t = Tree.fork t s e (in_front front t)

-- the name x is one of those in front, and its entry is y
abbrev pub Stands : List (Symbol × Entry) → Symbol → Entry → Type 0
Stands [] x y = ⊥
Stands ((s, e) ∷ front) x y = (x ≡ s) × (y ≡ e) ⊎ Stands front x y

-- y is the entry of x in front, or what the table lists under x
abbrev pub Listed : List (Symbol × Entry) → Tree → Symbol → Entry → Type 0
Listed front t x y = Stands front x y ⊎ (y ≡ in_tree t x)

module _ (t : Tree) (x : Symbol) where
  listed_behind :
      (s : Symbol) (e : Entry) (front : List (Symbol × Entry)) (o : Ordering) → compare x s ≡ o → Listed front t x (in_tree (in_front front t) x)
      → Listed ((s, e) ∷ front) t x (in_tree (in_front ((s, e) ∷ front) t) x)
  listed_behind s e front lt c rest = inr (rw c refl)
  listed_behind s e front eq c rest = inl (inl (path_by_compare x s c, rw c refl))
  listed_behind s e front gt c rest = rw c (⊎_elim (λ a. inl (inr a)) (λ b. inr b) rest)

  listed_in_front : (front : List (Symbol × Entry)) → Listed front t x (in_tree (in_front front t) x)
  listed_in_front [] = inr refl
  listed_in_front ((s, e) ∷ front) = listed_behind s e front (compare x s) refl (listed_in_front front)

-- in a program that has a crate's table with some functions in front, under each name of the crate
pub linked-listed :
    (W : World) (c : Symbol) (front : List (Symbol × Entry)) (t : Tree) → Holds W c (in_front front t) → (x : Symbol) → crate_of x ≡ codes c
    → Listed front t x (in_world W x)
linked-listed W c front t here x of_crate = rw (in_table W c (in_front front t) here x of_crate) (listed_in_front t x front)
