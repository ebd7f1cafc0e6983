-- An arbiter that is told a message: whether its line can be served, the refusals in their order, and what a caller learns of the answer.
-- Assumes nothing.
use mathlib.Core.Bool.{Bool, true, false, cond, and-false}
use mathlib.Core.List.{List, [], ◌∷◌}
use mathlib.Core.Logic.{⊎_elim}
use mathlib.Core.Path.{◌≡◌, refl, sym, ap, ◌∙◌}
use Prim.Native.Nat.{ℕ, ◌≤◌, ◌<◌}
use native.Mathlib.Omega.{arith}
use Rattle.std.specs.Prelude.{Ok, Err}
use lib.Dec.{leb, ltb}
use lib.ListN.{length, get_or, length-append, get_or-append}
use borrow.Author.Tests.{le-leb, lt-leb, leb-true, lt-ltb, ltb-true}
use Rattle.lists.specs.Cut.{cut}
use Rattle.lists.specs.Search.{all}
use Rattle.lists.proofs.Broken.{number_at, BrokenAt, tests_done, tests_refuse}
use Rattle.lists.proofs.Cuts.{length_cut, get_or-cut}
use Rattle.lists.proofs.Searches.{all-at}
use Rattle.lists.proofs.Tests.{and_left, and_right, and_both}
use Rattle.std.proofs.lemmas.Bool.{cases_Bool}
use Rattle.quorum.specs.Limits.{most_stations}
use Rattle.refusals.specs.Numbers.{number_of}
use Rattle.refusals.specs.declared.Refusal.{Refusal}
use Rattle.refusals.proofs.Outcomes.{some_number}
use Rattle.units.specs.Units.{request_in}
use Rattle.units.specs.declared.Units.{Units}
use Rattle.plain.specs.Arbiter.{arrived, served}
use Rattle.plain.specs.InRange.{entry_in, arbiter_in}
use Rattle.plain.specs.Lanes.{line_places, keeps, passes}
use Rattle.plain.specs.State.{Arbiter as PlainArbiter}
use Rattle.plain.specs.declared.Entry.{Entry}
use Rattle.plain.specs.declared.Message.{Message}
use Rattle.plain.specs.declared.Message.TheVariants.{Request, Release, Grant, Withdraw, Gone}
use Rattle.plain.proofs.ArbitersInRange.{arbiter_facts}
use Rattle.plain.proofs.Dropping.{keeps-without}
use Rattle.plain.proofs.LanesInRange.{keeps-more, keeps-all, keeps-short}
use Rattle.plain.proofs.Serving.{serve_splits}
use Rattle.records.specs.View.{no_entry, arbiter_of}
use Rattle.records.specs.declared.Arbiter.{Arbiter}
use Rattle.arbiters.specs.Inner.Ready.{Named, Serves}
use Rattle.arbiters.specs.Telling.{is_of, servable, Telling, untold, line_full, telling_tests, told_as, telling, told_of}
use Rattle.arbiters.specs.declared.answers.Delivery.{Delivery}

-- ---- lines that can be served, as the code tests them

module _ (n : ℕ) (a : Arbiter) where
  pub too_many : most_stations < n → servable n (arbiter_of n a) ≡ false
  unfolding servable
  too_many h = rw (lt-leb n most_stations h)

  pub too_long : line_places < a.len → servable n (arbiter_of n a) ≡ false
  unfolding servable keeps arbiter_of
  too_long h = rw (length_cut no_entry a.len a.line, lt-leb a.len line_places h) (and-false (leb n most_stations))

  pub by_entries : n ≤ most_stations → a.len ≤ line_places → servable n (arbiter_of n a) ≡ all (is_of n) (cut no_entry a.len a.line)
  unfolding servable keeps arbiter_of
  by_entries h l = rw (le-leb n most_stations h, length_cut no_entry a.len a.line, le-leb a.len line_places l)

module _ (n : ℕ) where
  servable-line : (a : PlainArbiter) → servable n a ≡ true → keeps line_places (is_of n) a.line ≡ true
  unfolding servable
  servable-line a e = and_right (leb n most_stations) (keeps line_places (is_of n) a.line) e

  servable-few : (a : PlainArbiter) → servable n a ≡ true → n ≤ most_stations
  unfolding servable
  servable-few a e = leb-true n most_stations (and_left (leb n most_stations) (keeps line_places (is_of n) a.line) e)

  -- entry i of a line that can be served
  entry_of : (a : PlainArbiter) → servable n a ≡ true → (i : ℕ) → i < length a.line → (get_or a.line i no_entry).station < n
  entry_of a e i h =
      ltb-true (get_or a.line i no_entry).station n
      (all-at (is_of n) no_entry a.line (keeps-all line_places (is_of n) a.line (servable-line a e)) i h)

  pub servable_serves : (b : Arbiter) → servable n (arbiter_of n b) ≡ true → Serves n b
  unfolding arbiter_of
  servable_serves b e =
      let long = length_cut no_entry b.len b.line in
      record {
        few = servable-few (arbiter_of n b) e;
        short = omega (arith, long, keeps-short line_places (is_of n) (cut no_entry b.len b.line) (servable-line (arbiter_of n b) e));
        named = λ i h. rw (get_or-cut no_entry b.len b.line i h) at (entry_of (arbiter_of n b) e i (omega (arith, long)));
      }

  -- it can be served when a message has arrived
  pub arrived-servable : (m : Message) (s : ℕ) (a : PlainArbiter) → s < n → servable n a ≡ true → passes line_places (arrived m s a).line ≡ false → servable n (arrived m s a) ≡ true
  unfolding arrived servable
  arrived-servable (Request h) s a l e room =
      and_both (le-leb n most_stations (servable-few a e))
      (keeps-more line_places (is_of n) a.line (record { station = s; units = h } ∷ []) (servable-line a e) (and_both (lt-ltb s n l) refl) room)
  arrived-servable Release s a l e room = e
  arrived-servable Withdraw s a l e room =
      and_both (le-leb n most_stations (servable-few a e)) (keeps-without s line_places (is_of n) a.line (servable-line a e))
  arrived-servable Grant s a l e room = e
  arrived-servable Gone s a l e room = e

  -- and that of an arbiter in range can be served
  all_of : (stock : Units) (line : List Entry) → all (entry_in n stock) line ≡ true → all (is_of n) line ≡ true
  unfolding entry_in
  all_of stock [] e = refl
  all_of stock (x ∷ line) e =
      and_both (and_left (ltb x.station n) (request_in stock x.units) (and_left (entry_in n stock x) (all (entry_in n stock) line) e))
      (all_of stock line (and_right (entry_in n stock x) (all (entry_in n stock) line) e))

  pub in_range-servable : (stock : Units) (a : PlainArbiter) → n ≤ most_stations → arbiter_in n stock a ≡ true → servable n a ≡ true
  unfolding servable keeps
  in_range-servable stock a few e =
      let line = (arbiter_facts n stock a e).line in
      and_both (le-leb n most_stations few)
      (and_both (le-leb (length a.line) line_places (keeps-short line_places (entry_in n stock) a.line line)) (all_of stock a.line (keeps-all line_places (entry_in n stock) a.line line)))

-- ---- by its tests

module _ (n : ℕ) (stock : Units) (s : ℕ) (m : Message) (a : PlainArbiter) where
  pub telling-refused : (i : ℕ) → BrokenAt i (telling_tests n s m a) → ltb 0 (number_at i (telling_tests n s m a)) ≡ true → telling n stock s m a ≡ untold a (number_at i (telling_tests n s m a))
  unfolding telling
  telling-refused i b d = tests_refuse (told_as n stock s m a) (untold a) i (telling_tests n s m a) b d

  module _ (fit : servable n a ≡ true) (station : s < n) where
    pub telling_full : passes line_places (arrived m s a).line ≡ true → telling n stock s m a ≡ untold a line_full
    telling_full f = telling-refused 2 ((rw fit, (lt-leb n s station, tt)), f) refl

    pub telling-done : passes line_places (arrived m s a).line ≡ false → telling n stock s m a ≡ told_as n stock s m a
    unfolding telling
    telling-done f = tests_done (told_as n stock s m a) (untold a) (telling_tests n s m a) (rw fit, (lt-leb n s station, (f, tt)))

-- ---- what a caller learns, whose arbiter can be served and whose station exists

-- the message has joined, and nothing was refused: the entries granted are the first so many of the line, all within the arrays
pub record Told (n : ℕ) (stock : Units) (joined : PlainArbiter) (d : Delivery) : Type 0 where
  pub room : passes line_places joined.line ≡ false
  pub arbiter : arbiter_of n d.arbiter ≡ (served n stock joined).arbiter
  pub grants : cut no_entry d.grants d.line ≡ (served n stock joined).grants
  pub short : d.grants ≤ line_places
  pub named : Named n d.grants d.line

module _ (n : ℕ) (stock : Units) (s : ℕ) (m : Message) (a : PlainArbiter) (fit : servable n a ≡ true) (station : s < n) where
  abbrev joined : PlainArbiter
  joined = arrived m s a

  -- of the refusals only 14 is left
  module _ (before : Arbiter) (r : Refusal) (told : told_of n before (Err r) ≡ telling n stock s m a) where
    refusal_is : number_of r ≡ (telling n stock s m a).refusal
    unfolding told_of
    refusal_is = ap (λ (t : Telling). t.refusal) told

    pub told_full : passes line_places joined.line ≡ true
    told_full =
        ⊎_elim (λ (t : passes line_places joined.line ≡ true). t)
        (λ (f : passes line_places joined.line ≡ false). absurd (some_number r (refusal_is ∙ ap (λ (t : Telling). t.refusal) (telling-done n stock s m a fit station f))))
        (cases_Bool (passes line_places joined.line))

    pub told_14 : number_of r ≡ line_full
    told_14 = refusal_is ∙ ap (λ (t : Telling). t.refusal) (telling_full n stock s m a fit station told_full)

  module _ (before : Arbiter) (d : Delivery) (told : told_of n before (Ok d) ≡ telling n stock s m a) where
    no_refusal : 0 ≡ (telling n stock s m a).refusal
    unfolding told_of
    no_refusal = ap (λ (t : Telling). t.refusal) told

    told-room : passes line_places joined.line ≡ false
    told-room =
        ⊎_elim (λ (t : passes line_places joined.line ≡ true). absurd (omega (arith, no_refusal ∙ ap (λ (x : Telling). x.refusal) (telling_full n stock s m a fit station t))))
        (λ (f : passes line_places joined.line ≡ false). f)
        (cases_Bool (passes line_places joined.line))

    pub told-done : Told n stock joined d
    unfolding told_of
    told-done =
        let done = told ∙ telling-done n stock s m a fit station told-room in
        let grants : cut no_entry d.grants d.line ≡ (served n stock joined).grants = ap (λ (t : Telling). t.grants) done in
        let fits = arrived-servable n m s a station fit told-room in
        let splits = serve_splits n stock joined.granted joined.line in
        let long = sym (length-append (served n stock joined).grants (served n stock joined).arbiter.line) ∙ ap length splits in
        let many = sym (length_cut no_entry d.grants d.line) ∙ ap length grants in
        let limit = keeps-short line_places (is_of n) joined.line (servable-line n joined fits) in
        record {
          room = told-room;
          arbiter = ap (λ (t : Telling). t.arbiter) done;
          grants = grants;
          short = omega (arith, long, many, limit);
          named = λ i h.
              let first = get_or-append (served n stock joined).grants (served n stock joined).arbiter.line no_entry i (omega (arith, many)) in
              let same = sym (get_or-cut no_entry d.grants d.line i h) ∙ ap (λ (l : List Entry). get_or l i no_entry) grants ∙ sym first ∙ ap (λ (l : List Entry). get_or l i no_entry) splits in
              rw same (entry_of n joined fits i (omega (arith, long, many)));
        }

-- ---- for the function that is told

pub has_room : (b : Bool) → 0 ≡ cond b line_full 0 → b ≡ false
has_room true e = absurd (omega arith)
has_room false e = refl

pub ruleset delivery_steps = (servable_serves, arrived-servable, telling_full, telling-done, has_room, some_number)
