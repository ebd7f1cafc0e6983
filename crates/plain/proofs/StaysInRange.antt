-- A fresh state is in range, and a call keeps a state in range.
-- Assumes nothing.
use mathlib.Core.Bool.{Bool, true, false, cond, ◌&&◌}
use mathlib.Core.List.{List, [], ◌∷◌, ◌++◌}
use mathlib.Core.Logic.{by_cases, ⊎_elim}
use mathlib.Core.Path.{◌≡◌, refl}
use Prim.Native.Nat.{ℕ, suc, ◌<◌}
use native.Mathlib.Decide.{ℕ_discrete}
use lib.Dec.{eqb, ltb}
use lib.ListN.{length}
use borrow.Author.Tests.{eq-eqb, ne_eqb, lt-ltb, ltb-true}
use Rattle.lists.specs.At.{at2}
use Rattle.lists.specs.Search.{all, some_below}
use Rattle.lists.proofs.Changed.{at_all, at2-all}
use Rattle.lists.proofs.Searches.{every_true, some-never, all_append}
use Rattle.lists.proofs.Tests.{and_left, and_right, and_both}
use Rattle.std.proofs.lemmas.Bool.{cases_Bool, or_parts}
use Rattle.stations.specs.Member.{member}
use Rattle.stations.specs.Sets.{lowest_from}
use Rattle.quorum.specs.Family.{quorum}
use Rattle.quorum.specs.Limits.{broken_limit}
use Rattle.units.specs.Units.{no_units, request_in, grant_in, asked_with}
use Rattle.units.specs.declared.Units.{Units}
use Rattle.units.proofs.Ranges.{none-granted}
use Rattle.plain.specs.Arbiter.{units_in, grants_to}
use Rattle.plain.specs.Down.{Taken, onward, taken, made_of, taken_at, down_passes, down_passes_of, received_as}
use Rattle.plain.specs.Inner.Passed.{Requests, Delivers, Releases, Withdraws}
use Rattle.plain.specs.InRange.{goes_up, up_lane, down_lane, phase_in, arbiter_in, in_range, goes_down}
use Rattle.plain.specs.Lanes.{down_places, line_places, passes, sent, up_places, keeps}
use Rattle.plain.specs.Release.{releasing, release_passes, any_passes, some_passes, given_back}
use Rattle.plain.specs.Request.{lowest, request_passes, requested}
use Rattle.plain.specs.Run.{Call, call, after}
use Rattle.plain.specs.State.{State, fresh}
use Rattle.plain.specs.Up.{arrived_at, served_at, replying, granting, granted_at, up_passes, delivered_of}
use Rattle.plain.specs.Withdraw.{below, withdrawing, leaving_passes, given_up}
use Rattle.plain.specs.declared.Message.{Message}
use Rattle.plain.specs.declared.Message.TheVariants.{Request, Release, Withdraw}
use Rattle.plain.specs.declared.Phase.{Phase}
use Rattle.plain.specs.declared.Phase.TheVariants.{Idle, Collecting, Holding, Withdrawing}
use Rattle.plain.proofs.Approaching.{made_as, left_as, onward_as, first_member}
use Rattle.plain.proofs.ArbitersInRange.{arbiter_facts, facts_arbiter, arrived_in, served_in}
use Rattle.plain.proofs.Calls.{each-call}
use Rattle.plain.proofs.LanesInRange.{keeps-more, keeps-room, keeps-rest, keeps-all, keeps_first, grants-down}
use Rattle.plain.proofs.Range.{Ranged, ranged, in_range_lem}
use Rattle.plain.proofs.Releasing.{releasing-member, releasing_other}
use Rattle.plain.proofs.Replying.{replying_other, replying-down}
use Rattle.plain.proofs.Runs.{after-keeps}
use Rattle.plain.proofs.Withdrawing.{approached_below}

fresh_ranged : (n : ℕ) (stock : Units) (table : List ℕ) → broken_limit n (asked_with stock) table ≡ 0 → Ranged (fresh n stock table)
unfolding fresh phase_in arbiter_in keeps
fresh_ranged n stock table kept =
    record {
      limits = kept;
      phases = λ s l. refl;
      arbiters = λ j l. and_both (every_true (λ s. grant_in stock no_units) n (λ s b. none-granted stock)) refl;
      ups = λ s l j b. refl;
      downs = λ s l j b. refl;
    }

-- ---- Request

request_ranged : (st : State) (s q : ℕ) (h : Units) → Requests st s q h → request_passes st s q h ≡ false → Ranged (requested st s q h)
unfolding requested phase_in goes_up
request_ranged st s q h r room =
    let g = ranged st r.range in
    let low = first_member st.n st.stock st.table g.limits q r.quorum in
    record {
      limits = g.limits;
      phases = λ t l. at_all (λ p. phase_in st.n st.stock st.table p ≡ true) st.phase s (Collecting q h (lowest st q))
          (and_both (lt-ltb q (length st.table) r.quorum) (and_both r.units (lt-ltb (lowest st q) st.n low.station))) t (g.phases t l);
      arbiters = g.arbiters;
      ups = λ t l j b. at2-all (λ lane. up_lane st.stock lane ≡ true) st.up s (lowest st q) _
          (keeps-more up_places (goes_up st.stock) (st.up s (lowest st q)) (Request h ∷ []) (g.ups s r.station (lowest st q) low.station) (and_both r.units refl) room)
          t j (λ o. g.ups t l j b);
      downs = g.downs;
    }

-- ---- Up

module _ (st : State) (s j : ℕ) (m : Message) (rest : List Message) (d : Delivers st s j (st.up s j) m rest) (passes-not : up_passes st s j m ≡ false) where
  g : Ranged st
  g = ranged st d.range

  lane : up_lane st.stock (m ∷ rest) ≡ true
  lane = rw d.taken at (g.ups s d.station j d.arbiter)

  room : (passes line_places (arrived_at st s j m).line ≡ false)
      × (some_below (λ t. passes down_places (granted_at st s j m t j)) st.n ≡ false)
  room = or_parts _ _ passes-not

  arbiter_in_lem : arbiter_in st.n st.stock (served_at st s j m).arbiter ≡ true
  arbiter_in_lem =
      facts_arbiter st.n st.stock (served_at st s j m).arbiter
      (served_in st.n st.stock (arrived_at st s j m)
      (arrived_in st.n st.stock m s (st.arbiter j) d.station (keeps_first up_places (goes_up st.stock) m rest lane) room.0
      (arbiter_facts st.n st.stock (st.arbiter j) (g.arbiters j d.arbiter))))

  granting_in : (t : ℕ) → t < st.n → (x : ℕ) → x < st.n → down_lane (granted_at st s j m t x) ≡ true
  unfolding granting
  granting_in t l x b =
      let all-down : (u : ℕ) → u < st.n → all goes_down (st.down u j) ≡ true = λ u c. keeps-all down_places goes_down (st.down u j) (g.downs u c j d.arbiter) in
      by_cases (ℕ_discrete x j)
      (λ (e : x ≡ j). rw (e, eq-eqb j j refl) (keeps-room down_places goes_down (replying m st.down s j t j ++ grants_to t (served_at st s j m).grants)
      (all_append goes_down (replying m st.down s j t j) (grants_to t (served_at st s j m).grants) (replying-down st.down s j m t j (all-down s d.station) (all-down t l))
      (grants-down (units_in t (served_at st s j m).grants))) (rw (eq-eqb j j refl) at (some-never _ st.n room.1 t l))))
      (λ (o : x ≡ j → ⊥). rw (ne_eqb x j o, replying_other st.down s j m t x (λ z e. o e)) (g.downs t l x b))

  up_ranged : Ranged (delivered_of st s j m rest)
  unfolding delivered_of
  up_ranged =
      record {
        limits = g.limits;
        phases = g.phases;
        arbiters = λ x b. at_all (λ a. arbiter_in st.n st.stock a ≡ true) st.arbiter j (served_at st s j m).arbiter arbiter_in_lem x (g.arbiters x b);
        ups = λ t l x b. at2-all (λ z. up_lane st.stock z ≡ true) st.up s j rest (keeps-rest up_places (goes_up st.stock) (m ∷ []) rest lane) t x (λ o. g.ups t l x b);
        downs = granting_in;
      }

-- ---- Down

-- what a station makes of a message is in range
taken_in : ℕ → Units → List ℕ → Taken → Bool
taken_in n stock table (Taken.asks q h m) = phase_in n stock table (Collecting q h m)
taken_in n stock table (Taken.holds q h) = phase_in n stock table (Holding q h)
taken_in n stock table Taken.idles = true
taken_in n stock table Taken.drops = true

onward_in : (n : ℕ) (stock : Units) (table : List ℕ) → broken_limit n (asked_with stock) table ≡ 0 → (q : ℕ) (h : Units) (j : ℕ) → ltb q (length table) ≡ true → request_in stock h ≡ true → taken_in n stock table (onward table q h j) ≡ true
unfolding taken_in phase_in
onward_in n stock table kept q h j exists units =
    onward_as n stock table kept q (ltb-true q (length table) exists) (λ t. taken_in n stock table t ≡ true) h j
    (λ low. and_both exists (and_both units (lt-ltb (lowest_from (quorum table q) (suc j)) n low.station))) (λ l none. and_both exists units)

taken_in_lem : (n : ℕ) (stock : Units) (table : List ℕ) → broken_limit n (asked_with stock) table ≡ 0 → (j : ℕ) (p : Phase) → phase_in n stock table p ≡ true → taken_in n stock table (taken table j p) ≡ true
unfolding taken_in taken phase_in
taken_in_lem n stock table kept j Idle e = refl
taken_in_lem n stock table kept j (Collecting q h m) e = go (eqb m j)
  where
    exists : ltb q (length table) ≡ true
    exists = and_left (ltb q (length table)) (request_in stock h && ltb m n) e

    units : request_in stock h ≡ true
    units = and_left (request_in stock h) (ltb m n) (and_right (ltb q (length table)) (request_in stock h && ltb m n) e)

    go : (b : Bool) → taken_in n stock table (cond b (onward table q h j) Taken.drops) ≡ true
    go true = onward_in n stock table kept q h j exists units
    go false = refl
taken_in_lem n stock table kept j (Holding q h) e = refl
taken_in_lem n stock table kept j Withdrawing e = refl

made_in : (n : ℕ) (stock : Units) (table : List ℕ) → broken_limit n (asked_with stock) table ≡ 0 → (j : ℕ) (p : Phase) (m : Message) → phase_in n stock table p ≡ true → taken_in n stock table (made_of table j p m) ≡ true
unfolding taken_in
made_in n stock table kept j p m e = made_as (λ t. taken_in n stock table t ≡ true) table j p refl (taken_in_lem n stock table kept j p e) (left_as (λ t. taken_in n stock table t ≡ true) p refl (λ w. refl)) m

module _ (st : State) (s j : ℕ) (m : Message) (rest : List Message) (d : Delivers st s j (st.down s j) m rest) where
  in_range_before : Ranged st
  in_range_before = ranged st d.range

  rest_in : (t : ℕ) → t < st.n → (x : ℕ) → x < st.n → down_lane (at2 st.down s j rest t x) ≡ true
  rest_in t l x b =
      let downs = in_range_before.downs in
      at2-all (λ z. down_lane z ≡ true) st.down s j rest (keeps-rest down_places goes_down (m ∷ []) rest (rw d.taken at (downs s d.station j d.arbiter))) t x (λ o. downs t l x b)

  taken_ranged : (t : Taken) → taken_in st.n st.stock st.table t ≡ true → down_passes st s t ≡ false → Ranged (received_as st s j rest t)
  unfolding received_as taken_in phase_in goes_up
  taken_ranged (Taken.asks q h x) e room =
      let b = in_range_before in
      let units = and_right (ltb q (length st.table)) (request_in st.stock h && ltb x st.n) e in
      let below = ltb-true x st.n (and_right (request_in st.stock h) (ltb x st.n) units) in
      record {
        limits = b.limits;
        phases = λ t l. at_all (λ p. phase_in st.n st.stock st.table p ≡ true) st.phase s (Collecting q h x) e t (b.phases t l);
        arbiters = b.arbiters;
        ups = λ t l y c. at2-all (λ z. up_lane st.stock z ≡ true) st.up s x (sent (st.up s x) (Request h))
            (keeps-more up_places (goes_up st.stock) (st.up s x) (Request h ∷ []) (b.ups s d.station x below) (and_both (and_left (request_in st.stock h) (ltb x st.n) units) refl) room)
            t y (λ o. b.ups t l y c);
        downs = rest_in;
      }
  taken_ranged (Taken.holds q h) e _ =
      let b = in_range_before in
      record {
        limits = b.limits;
        phases = λ t l. at_all (λ p. phase_in st.n st.stock st.table p ≡ true) st.phase s (Holding q h) e t (b.phases t l);
        arbiters = b.arbiters;
        ups = b.ups;
        downs = rest_in;
      }
  taken_ranged Taken.idles e _ =
      let b = in_range_before in
      record {
        limits = b.limits;
        phases = λ t l. at_all (λ p. phase_in st.n st.stock st.table p ≡ true) st.phase s Idle refl t (b.phases t l);
        arbiters = b.arbiters;
        ups = b.ups;
        downs = rest_in;
      }
  taken_ranged Taken.drops e room =
      let b = in_range_before in
      record {
        limits = b.limits;
        phases = b.phases;
        arbiters = b.arbiters;
        ups = b.ups;
        downs = rest_in;
      }

  down_ranged : down_passes_of st s j m ≡ false → Ranged (received_as st s j rest (taken_at st s j m))
  down_ranged room =
      let b = in_range_before in
      taken_ranged (taken_at st s j m) (made_in st.n st.stock st.table b.limits j (st.phase s) m (b.phases s d.station)) room

-- ---- Release

-- RELEASE to the members of a set
releasing_in : (st : State) (s set : ℕ) → Ranged st → s < st.n → any_passes st s set ≡ false → (j : ℕ) → j < st.n → up_lane st.stock (releasing set (st.up s) j) ≡ true
unfolding goes_up
releasing_in st s set b l room j c =
    ⊎_elim
    (λ (t : member set j ≡ true).
    rw (releasing-member set (st.up s) j t)
    (keeps-more up_places (goes_up st.stock) (st.up s j) (Release ∷ []) (b.ups s l j c) refl
    (rw (t, releasing-member set (st.up s) j t) at (some-never (λ j. release_passes set (st.up s) j) st.n room j c))))
    (λ (f : member set j ≡ false). rw (releasing_other set (st.up s) j f) (b.ups s l j c))
    (cases_Bool (member set j))

release_ranged : (st : State) (s q : ℕ) (h : Units) → Releases st s q h → some_passes st s q ≡ false → Ranged (given_back st s q)
unfolding given_back phase_in
release_ranged st s q h r room =
    let b = ranged st r.range in
    record {
      limits = b.limits;
      phases = λ t l. at_all (λ p. phase_in st.n st.stock st.table p ≡ true) st.phase s Idle refl t (b.phases t l);
      arbiters = b.arbiters;
      ups = λ t l j c. at_all (λ row. up_lane st.stock (row j) ≡ true) st.up s _ (releasing_in st s (quorum st.table q) b r.station room j c) t (b.ups t l j c);
      downs = b.downs;
    }

-- ---- Withdraw

withdraw_ranged : (st : State) (s q : ℕ) (h : Units) (m : ℕ) → Withdraws st s q h m → leaving_passes st s q m ≡ false → Ranged (given_up st s q m)
unfolding given_up withdrawing phase_in goes_up
withdraw_ranged st s q h m w passes-not =
    record {
      limits = b.limits;
      phases = λ t l. at_all (λ p. phase_in st.n st.stock st.table p ≡ true) st.phase s Withdrawing refl t (b.phases t l);
      arbiters = b.arbiters;
      ups = λ t l j c. at_all (λ row. up_lane st.stock (row j) ≡ true) st.up s _
          (at_all (λ lane. up_lane st.stock lane ≡ true) (releasing (below (quorum st.table q) m) (st.up s)) m (sent (st.up s m) Withdraw) last j
          (releasing_in st s (below (quorum st.table q) m) b w.station room.0 j c))
          t (b.ups t l j c);
      downs = b.downs;
    }
  where
    b : Ranged st
    b = ranged st w.range

    room : (any_passes st s (below (quorum st.table q) m) ≡ false) × (passes up_places (sent (st.up s m) Withdraw) ≡ false)
    room = or_parts _ _ passes-not

    last : up_lane st.stock (sent (st.up s m) Withdraw) ≡ true
    last = keeps-more up_places (goes_up st.stock) (st.up s m) (Withdraw ∷ []) (b.ups s w.station m (ltb-true m st.n (approached_below st s q h m w))) refl room.1

-- ---- the theorem

-- a fresh state of a table that passes 1 to 4 is in range
pub fresh_in_range : (n : ℕ) (stock : Units) (table : List ℕ) → broken_limit n (asked_with stock) table ≡ 0 → in_range (fresh n stock table) ≡ true
fresh_in_range n stock table kept = in_range_lem (fresh n stock table) (fresh_ranged n stock table kept)

-- a call, with any numbers as arguments, keeps a state in range
pub call_in_range : (st : State) (c : Call) → in_range st ≡ true → in_range (call st c).state ≡ true
call_in_range st c e =
    each-call (λ a. in_range a.state ≡ true) st
    (record {
      is_refused = λ r. e;
      by_request = λ s q h r room. in_range_lem (requested st s q h) (request_ranged st s q h r room);
      by_up = λ s j m rest d room. in_range_lem (delivered_of st s j m rest) (up_ranged st s j m rest d room);
      by_down = λ s j m rest d room. in_range_lem (received_as st s j rest (taken_at st s j m)) (down_ranged st s j m rest d room);
      by_release = λ s q h r room. in_range_lem (given_back st s q) (release_ranged st s q h r room);
      by_withdraw = λ s q h m w room. in_range_lem (given_up st s q m) (withdraw_ranged st s q h m w room);
    })
    c

-- and so does a list of calls
pub calls_in_range : (st : State) (calls : List Call) → in_range st ≡ true → in_range (after st calls) ≡ true
calls_in_range st calls e = after-keeps (λ x. in_range x ≡ true) call_in_range st calls e
