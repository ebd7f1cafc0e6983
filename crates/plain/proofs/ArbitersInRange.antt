-- Arbiters in range: a message arrives, the line is served.
-- Assumes nothing.
use mathlib.Core.Bool.{true, false}
use mathlib.Core.List.{List, [], ◌∷◌}
use mathlib.Core.Logic.{⊎_elim}
use mathlib.Core.Path.{◌≡◌, refl}
use Prim.Native.Nat.{ℕ, ◌<◌}
use lib.Dec.{ltb}
use borrow.Author.Tests.{lt-ltb}
use Rattle.lists.specs.At.{at}
use Rattle.lists.specs.Search.{all, every_below}
use Rattle.lists.proofs.Changed.{at_all}
use Rattle.lists.proofs.Searches.{every_true, every_at}
use Rattle.lists.proofs.Tests.{and_left, and_right, and_both}
use Rattle.std.proofs.lemmas.Bool.{cases_Bool}
use Rattle.units.specs.Units.{request_in, grant_in, fits}
use Rattle.units.specs.declared.Units.{Units}
use Rattle.units.proofs.Ranges.{none-granted, request-granted}
use Rattle.plain.specs.Arbiter.{arrived, serve, served}
use Rattle.plain.specs.InRange.{goes_up, entry_in, arbiter_in}
use Rattle.plain.specs.Lanes.{line_places, keeps, passes}
use Rattle.plain.specs.State.{Arbiter}
use Rattle.plain.specs.declared.Entry.{Entry}
use Rattle.plain.specs.declared.Message.{Message}
use Rattle.plain.specs.declared.Message.TheVariants.{Request, Release, Grant, Withdraw, Gone}
use Rattle.plain.proofs.Dropping.{keeps-without}
use Rattle.plain.proofs.LanesInRange.{keeps-more, keeps-rest, keeps-all}
use Rattle.plain.proofs.Serving.{serve_splits}

-- in range, as facts
pub record Arbiter_facts (n : ℕ) (stock : Units) (a : Arbiter) : Type 0 where
  pub grants : (s : ℕ) → s < n → grant_in stock (a.granted s) ≡ true
  pub line : keeps line_places (entry_in n stock) a.line ≡ true

module _ (n : ℕ) (stock : Units) where
  pub arbiter_facts : (a : Arbiter) → arbiter_in n stock a ≡ true → Arbiter_facts n stock a
  unfolding arbiter_in
  arbiter_facts a e =
      record {
        grants = λ s l.
            every_at (λ s. grant_in stock (a.granted s)) n (and_left (every_below (λ s. grant_in stock (a.granted s)) n) (keeps line_places (entry_in n stock) a.line) e) s l;
        line = and_right (every_below (λ s. grant_in stock (a.granted s)) n) (keeps line_places (entry_in n stock) a.line) e;
      }

  pub facts_arbiter : (a : Arbiter) → Arbiter_facts n stock a → arbiter_in n stock a ≡ true
  unfolding arbiter_in
  facts_arbiter a f =
      and_both (every_true (λ s. grant_in stock (a.granted s)) n f.grants) f.line

  pub arrived_in : (m : Message) (s : ℕ) (a : Arbiter) → s < n → goes_up stock m ≡ true → passes line_places (arrived m s a).line ≡ false → Arbiter_facts n stock a → Arbiter_facts n stock (arrived m s a)
  unfolding arrived goes_up entry_in
  arrived_in (Request h) s a l u room f =
      record {
        grants = f.grants;
        line = keeps-more line_places (entry_in n stock) a.line (record { station = s; units = h } ∷ []) f.line (and_both (and_both (lt-ltb s n l) u) refl) room;
      }
  arrived_in Release s a l u room f =
      record {
        grants = λ t b. at_all (λ g. grant_in stock g ≡ true) a.granted s _ (search (none-granted stock, f.grants s l)) t (f.grants t b);
        line = f.line;
      }
  arrived_in Withdraw s a l u room f =
      record {
        grants = λ t b. at_all (λ g. grant_in stock g ≡ true) a.granted s _ (search (none-granted stock, f.grants s l)) t (f.grants t b);
        line = keeps-without s line_places (entry_in n stock) a.line f.line;
      }
  arrived_in Grant s a l u room f = f
  arrived_in Gone s a l u room f = f

  serve_in : (g : ℕ → Units) (line : List Entry) → ((s : ℕ) → s < n → grant_in stock (g s) ≡ true) → all (entry_in n stock) line ≡ true → (s : ℕ) → s < n → grant_in stock ((serve n stock g line).arbiter.granted s) ≡ true
  unfolding serve entry_in
  serve_in g [] h e s l = h s l
  serve_in g (x ∷ line) h e s l =
      ⊎_elim (λ (t : fits n stock g x.units ≡ true). rw t (serve_in (at g x.station x.units) line (λ t b. at_all (λ y. grant_in stock y ≡ true) g x.station x.units small t (h t b)) (and_right (entry_in n stock x) (all (entry_in n stock) line) e) s l))
      (λ (f : fits n stock g x.units ≡ false). rw f (h s l))
      (cases_Bool (fits n stock g x.units))
    where
      small : grant_in stock x.units ≡ true
      small = request-granted stock x.units (and_right (ltb x.station n) (request_in stock x.units) (and_left (entry_in n stock x) (all (entry_in n stock) line) e))

  pub served_in : (a : Arbiter) → Arbiter_facts n stock a → Arbiter_facts n stock (served n stock a).arbiter
  served_in a f =
      record {
        grants = serve_in a.granted a.line f.grants (keeps-all line_places (entry_in n stock) a.line f.line);
        line = keeps-rest line_places (entry_in n stock) (served n stock a).grants (served n stock a).arbiter.line (rw (serve_splits n stock a.granted a.line) f.line);
      }
