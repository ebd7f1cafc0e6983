-- Each call by its tests: what it has passed when it is done, and what it answers otherwise.
-- Assumes nothing.
use mathlib.Core.Bool.{Bool, true, false, not}
use mathlib.Core.List.{List, [], ◌∷◌}
use mathlib.Core.Path.{◌≡◌, refl, ◌∙◌}
use Prim.Native.Nat.{ℕ}
use lib.Dec.{leb, ltb}
use lib.ListN.{length, take}
use borrow.Author.Tests.{leb-false, lt-leb, not-false}
use Rattle.lists.proofs.Broken.{Kept, kept_both, passes_kept, number_at, BrokenAt}
use Rattle.lists.proofs.Tests.{clash}
use Rattle.std.proofs.lemmas.Bool.{or_parts}
use Rattle.units.specs.declared.Units.{Units}
use Rattle.plain.specs.Answer.{Answer, Returned, nothing, left_only, refused, done, answered}
use Rattle.plain.specs.Delivery.{delivery_tests, delivery_refusal}
use Rattle.plain.specs.Down.{taken_at, down_passes_of, down_tests, received_as, returned, received, returning, down}
use Rattle.plain.specs.Inner.Passed.{Requests, Delivers, Releases, Withdraws}
use Rattle.plain.specs.InRange.{in_range}
use Rattle.plain.specs.Lanes.{is_empty, no_place}
use Rattle.plain.specs.Release.{is_holding, some_passes, release_tests, release_refusal, given_back, released, held, release}
use Rattle.plain.specs.Request.{is_idle, request_passes, request_tests, request_refusal, requested, request_returns, request}
use Rattle.plain.specs.State.{State}
use Rattle.plain.specs.Up.{up_passes, up_tests, delivered_of, delivered, up}
use Rattle.plain.specs.Withdraw.{is_collecting, leaving_passes, withdraw_tests, withdraw_refusal, given_up, withdrawn, withdraw}
use Rattle.plain.specs.declared.Message.{Message}
use Rattle.plain.specs.declared.Phase.{Phase}
use Rattle.plain.specs.declared.Phase.TheVariants.{Idle, Collecting, Holding, Withdrawing}
use Rattle.plain.proofs.Answered.{answered-done, answered-refused}

-- what is true is no broken test
pub range_kept : {b : Bool} → b ≡ true → not b ≡ false
range_kept e = rw e

-- ---- Request

pub is_idle_lem : (p : Phase) → not (is_idle p) ≡ false → p ≡ Idle
is_idle_lem Idle e = refl
is_idle_lem (Collecting q h m) e = absurd (clash refl e)
is_idle_lem (Holding q h) e = absurd (clash refl e)
is_idle_lem Withdrawing e = absurd (clash refl e)

module _ (st : State) (s q : ℕ) (h : Units) where
  -- what is passed when only the room is left
  pub requesting : Kept (take 5 (request_tests st s q h)) → Requests st s q h
  requesting (a, (b, (c, (d, (f, end))))) =
      record {
        range = not-false (in_range st) a;
        station = leb-false st.n s b;
        quorum = leb-false (length st.table) q c;
        units = not-false _ d;
        idle = is_idle_lem (st.phase s) f;
      }

  pub requests : request_refusal st s q h ≡ 0 → Requests st s q h × (request_passes st s q h ≡ false)
  unfolding request_refusal
  requests e =
      let (a, (b, (c, (d, (f, (room, end)))))) = passes_kept (request_tests st s q h) refl e in (requesting (a, (b, (c, (d, (f, tt))))), room)

  -- the test at place i is broken, and none before it
  pub request-refused : (i : ℕ) → BrokenAt i (request_tests st s q h) → ltb 0 (number_at i (request_tests st s q h)) ≡ true → request st s q h ≡ refused st (number_at i (request_tests st s q h))
  unfolding request request_refusal
  request-refused i b n = answered-refused st (request_returns st q) (requested st s q h) i (request_tests st s q h) b n

  module _ (r : Requests st s q h) where
    pub request_kept : Kept (take 5 (request_tests st s q h))
    request_kept = (range_kept r.range, (lt-leb st.n s r.station, (lt-leb (length st.table) q r.quorum, (range_kept r.units, (rw r.idle, tt)))))

    pub request-done : request_passes st s q h ≡ false → request st s q h ≡ done (request_returns st q) (requested st s q h)
    unfolding request request_refusal
    request-done room = answered-done st (request_returns st q) (requested st s q h) (request_tests st s q h) (kept_both 5 (request_tests st s q h) request_kept (room, tt))

-- ---- Up and Down: the same tests, each with its own for the room

first_message : (lane : List Message) → is_empty lane ≡ false → (m : Message) × (rest : List Message) × (lane ≡ m ∷ rest)
first_message [] e = absurd (clash refl e)
first_message (m ∷ rest) e = (m, rest, refl)

module _ (st : State) (s j : ℕ) (lane : List Message) (full : Message → Bool) where
  pub delivering : Kept (take 3 (delivery_tests st s j lane full)) → (m : Message) × (rest : List Message) × Delivers st s j lane m rest
  delivering (a, (b, (c, end))) =
      let (x, y) = or_parts (leb st.n s) (leb st.n j) b in
      let (m, rest, taken) = first_message lane c in
      (m, rest, record { range = not-false (in_range st) a; station = leb-false st.n s x; arbiter = leb-false st.n j y; taken = taken })

  pub delivers : delivery_refusal st s j lane full ≡ 0 → (m : Message) × (rest : List Message) × Delivers st s j lane m rest × (full m ≡ false)
  unfolding delivery_refusal
  delivers e =
      let (a, (b, (c, (room, end)))) = passes_kept (delivery_tests st s j lane full) refl e in
      let (m, rest, d) = delivering (a, (b, (c, tt))) in
      (m, rest, d, rw d.taken at room)

  module _ (x : Returned) (next : State) where
    -- what Up or Down answers
    abbrev pub delivery : Answer
    delivery = answered st (delivery_refusal st s j lane full) x next

    pub delivery_refused : (i : ℕ) → BrokenAt i (delivery_tests st s j lane full) → ltb 0 (number_at i (delivery_tests st s j lane full)) ≡ true → delivery ≡ refused st (number_at i (delivery_tests st s j lane full))
    unfolding delivery_refusal
    delivery_refused i b n = answered-refused st x next i (delivery_tests st s j lane full) b n

    module _ {m : Message} {rest : List Message} (d : Delivers st s j lane m rest) where
      delivery_kept : Kept (take 3 (delivery_tests st s j lane full))
      delivery_kept = (range_kept d.range, (rw (lt-leb st.n s d.station, lt-leb st.n j d.arbiter), (rw d.taken, tt)))

      pub delivery_full : full m ≡ true → delivery ≡ refused st no_place
      delivery_full f = delivery_refused 3 (delivery_kept, rw d.taken f) refl

      pub delivery_done : full m ≡ false → delivery ≡ done x next
      unfolding delivery_refusal
      delivery_done room = answered-done st x next (delivery_tests st s j lane full) (kept_both 3 (delivery_tests st s j lane full) delivery_kept (rw d.taken room, tt))

-- what each makes of the message that it has taken
module _ (st : State) (s j : ℕ) where
  pub up-refused : (i : ℕ) → BrokenAt i (up_tests st s j) → ltb 0 (number_at i (up_tests st s j)) ≡ true → up st s j ≡ refused st (number_at i (up_tests st s j))
  unfolding up
  up-refused i b n = delivery_refused st s j (st.up s j) (up_passes st s j) nothing (delivered st s j (st.up s j)) i b n

  pub down-refused : (i : ℕ) → BrokenAt i (down_tests st s j) → ltb 0 (number_at i (down_tests st s j)) ≡ true → down st s j ≡ refused st (number_at i (down_tests st s j))
  unfolding down
  down-refused i b n = delivery_refused st s j (st.down s j) (down_passes_of st s j) (returning st s j (st.down s j)) (received st s j (st.down s j)) i b n

  module _ {m : Message} {rest : List Message} where
    pub up_full : Delivers st s j (st.up s j) m rest → up_passes st s j m ≡ true → up st s j ≡ refused st no_place
    unfolding up
    up_full d f = delivery_full st s j (st.up s j) (up_passes st s j) nothing (delivered st s j (st.up s j)) d f

    pub up_done : Delivers st s j (st.up s j) m rest → up_passes st s j m ≡ false → up st s j ≡ done nothing (delivered_of st s j m rest)
    unfolding up delivered
    up_done d room = delivery_done st s j (st.up s j) (up_passes st s j) nothing (delivered st s j (st.up s j)) d room ∙ rw d.taken

    pub down_full : Delivers st s j (st.down s j) m rest → down_passes_of st s j m ≡ true → down st s j ≡ refused st no_place
    unfolding down
    down_full d f = delivery_full st s j (st.down s j) (down_passes_of st s j) (returning st s j (st.down s j)) (received st s j (st.down s j)) d f

    pub down-done : Delivers st s j (st.down s j) m rest → down_passes_of st s j m ≡ false
        → down st s j ≡ done (returned st (taken_at st s j m)) (received_as st s j rest (taken_at st s j m))
    unfolding down received returning
    down-done d room =
        delivery_done st s j (st.down s j) (down_passes_of st s j) (returning st s j (st.down s j)) (received st s j (st.down s j)) d room ∙ rw d.taken

-- ---- Release

is_holding_lem : (p : Phase) → not (is_holding p) ≡ false → (q : ℕ) × (h : Units) × (p ≡ Holding q h)
is_holding_lem Idle e = absurd (clash refl e)
is_holding_lem (Collecting q h m) e = absurd (clash refl e)
is_holding_lem (Holding q h) e = (q, h, refl)
is_holding_lem Withdrawing e = absurd (clash refl e)

module _ (st : State) (s : ℕ) where
  pub giving_back : Kept (take 3 (release_tests st s)) → (q : ℕ) × (h : Units) × Releases st s q h
  giving_back (a, (b, (c, end))) =
      let (q, h, holding) = is_holding_lem (st.phase s) c in
      (q, h, record { range = not-false (in_range st) a; station = leb-false st.n s b; holding = holding })

  pub releases : release_refusal st s ≡ 0 → (q : ℕ) × (h : Units) × Releases st s q h × (some_passes st s q ≡ false)
  unfolding release_refusal
  releases e =
      let (a, (b, (c, (room, end)))) = passes_kept (release_tests st s) refl e in
      let (q, h, r) = giving_back (a, (b, (c, tt))) in
      (q, h, r, rw r.holding at room)

  pub release-refused : (i : ℕ) → BrokenAt i (release_tests st s) → ltb 0 (number_at i (release_tests st s)) ≡ true → release st s ≡ refused st (number_at i (release_tests st s))
  unfolding release release_refusal
  release-refused i b n = answered-refused st (left_only (held (st.phase s))) (released st s (st.phase s)) i (release_tests st s) b n

  module _ {q : ℕ} {h : Units} (r : Releases st s q h) where
    release_kept : Kept (take 3 (release_tests st s))
    release_kept = (range_kept r.range, (lt-leb st.n s r.station, (rw r.holding, tt)))

    pub release_full : some_passes st s q ≡ true → release st s ≡ refused st no_place
    release_full full = release-refused 3 (release_kept, rw r.holding full) refl

    pub release-done : some_passes st s q ≡ false → release st s ≡ done (left_only h) (given_back st s q)
    unfolding release release_refusal released
    release-done room =
        answered-done st (left_only (held (st.phase s))) (released st s (st.phase s)) (release_tests st s) (kept_both 3 (release_tests st s) release_kept (rw r.holding room, tt))
        ∙ rw r.holding

-- ---- Withdraw

is_collecting_lem : (p : Phase) → not (is_collecting p) ≡ false → (q : ℕ) × (h : Units) × (m : ℕ) × (p ≡ Collecting q h m)
is_collecting_lem Idle e = absurd (clash refl e)
is_collecting_lem (Collecting q h m) e = (q, h, m, refl)
is_collecting_lem (Holding q h) e = absurd (clash refl e)
is_collecting_lem Withdrawing e = absurd (clash refl e)

module _ (st : State) (s : ℕ) where
  pub giving_up : Kept (take 3 (withdraw_tests st s)) → (q : ℕ) × (h : Units) × (m : ℕ) × Withdraws st s q h m
  giving_up (a, (b, (c, end))) =
      let (q, h, m, collecting) = is_collecting_lem (st.phase s) c in
      (q, h, m, record { range = not-false (in_range st) a; station = leb-false st.n s b; collecting = collecting })

  pub withdraws : withdraw_refusal st s ≡ 0 → (q : ℕ) × (h : Units) × (m : ℕ) × Withdraws st s q h m × (leaving_passes st s q m ≡ false)
  unfolding withdraw_refusal
  withdraws e =
      let (a, (b, (c, (room, end)))) = passes_kept (withdraw_tests st s) refl e in
      let (q, h, m, w) = giving_up (a, (b, (c, tt))) in
      (q, h, m, w, rw w.collecting at room)

  pub withdraw-refused : (i : ℕ) → BrokenAt i (withdraw_tests st s) → ltb 0 (number_at i (withdraw_tests st s)) ≡ true → withdraw st s ≡ refused st (number_at i (withdraw_tests st s))
  unfolding withdraw withdraw_refusal
  withdraw-refused i b n = answered-refused st nothing (withdrawn st s (st.phase s)) i (withdraw_tests st s) b n

  module _ {q : ℕ} {h : Units} {m : ℕ} (w : Withdraws st s q h m) where
    withdraw_kept : Kept (take 3 (withdraw_tests st s))
    withdraw_kept = (range_kept w.range, (lt-leb st.n s w.station, (rw w.collecting, tt)))

    pub withdraw_full : leaving_passes st s q m ≡ true → withdraw st s ≡ refused st no_place
    withdraw_full full = withdraw-refused 3 (withdraw_kept, rw w.collecting full) refl

    pub withdraw-done : leaving_passes st s q m ≡ false → withdraw st s ≡ done nothing (given_up st s q m)
    unfolding withdraw withdraw_refusal withdrawn
    withdraw-done room =
        answered-done st nothing (withdrawn st s (st.phase s)) (withdraw_tests st s) (kept_both 3 (withdraw_tests st s) withdraw_kept (rw w.collecting room, tt))
        ∙ rw w.collecting
