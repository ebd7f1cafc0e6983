-- What the answer and the buffer are on a table written.
-- Assumes nothing.
use Rattle.std.proofs.Common.{◌≡◌, ℕ, ◌≤◌, List, ◌++◌, length, take, drop, refl, sym, ap, ◌∙◌, arith}
use lib.Seq.{sets}
use Rattle.std.proofs.lemmas.List.{append-nil, drop_all, length-take-le}
use Rattle.std.specs.Prelude.{Ok}
use Rattle.lists.proofs.Joined.{sets_front}
use Rattle.tables.specs.Made.{answer, written, said}

-- ---- a table, stored in as many places at the front

pub sets_part : (n : ℕ) (out table : List ℕ) → n ≤ length out → length table ≡ n → sets (take n out) 0 table ++ drop n out ≡ sets out 0 table
sets_part n out table room size =
    let part : length (take n out) ≡ n = length-take-le n out room in
    let front : sets (take n out) 0 table ≡ table =
    sets_front (take n out) table (omega arith) ∙ ap (λ (l : List ℕ). table ++ l) (drop_all (length table) (take n out) (omega arith)) ∙ append-nil table in
    rw front (sym (sets_front out table (omega arith) ∙ ap (λ (i : ℕ). table ++ drop i out) size))

-- ---- the answer and the buffer

pub on_table : (table out : List ℕ) (refusal quorums : ℕ) (after : List ℕ) → 0 ≡ refusal → quorums ≡ length table → length table ≤ length out
    → after ≡ sets out 0 table → (said (Ok quorums) ≡ answer refusal table) × (after ≡ written refusal table out)
unfolding answer written
on_table table out refusal quorums after found size room stored = rw (sym found, size) (refl, stored ∙ sets_front out table room)
