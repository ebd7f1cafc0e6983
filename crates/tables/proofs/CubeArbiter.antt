-- A cube is accepted for its k. Of any k + 1 quorums, the station whose coordinate i is that of the i-th quorum's own station is in all
-- of them. Of two stations p and q, the quorum of p has a station that agrees with p where p and q differ and with q nowhere.
-- Assumes nothing.
use mathlib.Core.Bool.{Bool, true, false, cond}
use mathlib.Core.List.{List}
use mathlib.Core.Logic.{by_cases}
use mathlib.Core.Path.{◌≡◌, refl, sym, ap, ◌∙◌}
use Prim.Native.Nat.{ℕ, ◌+◌, ◌^◌, ◌≤◌, ◌<◌}
use native.Mathlib.Decide.{ℕ_discrete, dec_lt}
use native.Mathlib.Nat.{one-le-pow}
use native.Mathlib.Omega.{arith}
use lib.Dec.{eqb, ltb}
use lib.ListN.{length, get_or}
use borrow.Author.Tests.{eq-eqb, eqb-true, eqb-false, ne_eqb, ltb-false}
use Rattle.lists.proofs.Counting.{each-length, each_at}
use Rattle.lists.proofs.Searches.{some_at, some-found}
use Rattle.lists.proofs.Broken.{passes_kept}
use Rattle.lists.proofs.Tests.{clash}
use Rattle.std.proofs.lemmas.Bool.{or_parts}
use Rattle.stations.specs.Member.{member}
use Rattle.stations.proofs.Built.{member-set, set_below}
use Rattle.stations.proofs.Members.{member-zero}
use Rattle.quorum.specs.Accepted.{Accepted}
use Rattle.quorum.specs.Arbiter.{Common, LiesWithin}
use Rattle.quorum.specs.Family.{quorum, Numbers}
use Rattle.quorum.specs.Limits.{most_stations, most_units}
use Rattle.quorum.proofs.Promises.{arbiter_accepted, in_every, number_at, Limits, kept_limits, up_to_lem}
use Rattle.tables.specs.Cube.{cube_stations, station_at, coordinate, agree, cube_quorum, cube_table, cube_tests, cube_refusal}
use Rattle.tables.proofs.Coordinates.{coordinate-lt, station-below, station_has, station_ext}

-- ---- a coordinate that is x where x and y differ, and never y

unlike : ℕ → ℕ → ℕ
unlike x y = cond (eqb x y) (cond (eqb x 0) 1 0) x

unlike_lt : (a x y : ℕ) → 1 < a → x < a → unlike x y < a
unfolding unlike
unlike_lt a x y two h = go (eqb x y) (eqb x 0)
  where
    go : (b c : Bool) → cond b (cond c 1 0) x < a
    go true true = two
    go true false = omega arith
    go false c = h

unlike_left : (x y : ℕ) → (x ≡ y → ⊥) → unlike x y ≡ x
unfolding unlike
unlike_left x y d = rw (ne_eqb x y d)

unlike_right : (x y : ℕ) → unlike x y ≡ y → ⊥
unfolding unlike
unlike_right x y e =
    by_cases (ℕ_discrete x y)
    (λ (s : x ≡ y). by_cases (ℕ_discrete x 0)
    (λ (z : x ≡ 0). omega (arith, rw (eq-eqb x y s, eq-eqb x 0 z) at e))
    (λ (z : x ≡ 0 → ⊥). omega (arith, rw (eq-eqb x y s, ne_eqb x 0 z) at e)))
    (λ (d : x ≡ y → ⊥). d (rw (ne_eqb x y d) at e))

-- ---- who is a member

module _ (a k : ℕ) where
  -- the quorum at place p is that of station p
  pub cube_at : (p : ℕ) → p < cube_stations a k → quorum (cube_table a k) p ≡ cube_quorum a k p
  unfolding cube_table
  cube_at p h = each_at (cube_quorum a k) (cube_stations a k) p 0 h

  pub cube_length : length (cube_table a k) ≡ cube_stations a k
  unfolding cube_table
  cube_length = each-length (cube_quorum a k) (cube_stations a k)

  -- it has the stations that agree with p
  joins : (p q : ℕ) → p < cube_stations a k → q < cube_stations a k → (i : ℕ) → i < k + 1 → coordinate a i p ≡ coordinate a i q → member (quorum (cube_table a k) p) q ≡ true
  unfolding cube_quorum agree
  joins p q hp hq i l e =
      ap (λ (s : ℕ). member s q) (cube_at p hp) ∙ member-set (agree a (k + 1) p) (cube_stations a k) q hq
      ∙ some_at (λ j. eqb (coordinate a j p) (coordinate a j q)) (k + 1) i l (eq-eqb (coordinate a i p) (coordinate a i q) e)

  joined : (p q : ℕ) → p < cube_stations a k → q < cube_stations a k → member (quorum (cube_table a k) p) q ≡ true → (i : ℕ) × (i < k + 1) × (coordinate a i p ≡ coordinate a i q)
  unfolding cube_quorum agree
  joined p q hp hq m =
      let (i, l, t) = some-found (λ j. eqb (coordinate a j p) (coordinate a j q)) (k + 1)
      (sym (member-set (agree a (k + 1) p) (cube_stations a k) q hq) ∙ ap (λ (s : ℕ). member s q) (sym (cube_at p hp)) ∙ m) in
      (i, l, eqb-true (coordinate a i p) (coordinate a i q) t)

  -- and none from n on
  quorum-below : (p : ℕ) → p < cube_stations a k → quorum (cube_table a k) p < 2 ^ cube_stations a k
  unfolding cube_quorum
  quorum-below p h = rw (cube_at p h) (set_below (agree a (k + 1) p) (cube_stations a k))

-- ---- any k + 1 quorums have a common station

module _ (a k : ℕ) (some : 0 < a) where
  pub cube_meet : (f : List ℕ) → Numbers (length (cube_table a k)) f → length f ≡ k + 1 → Common (cube_stations a k) (cube_table a k) f
  cube_meet f numbers size =
      record {
        station = diagonal;
        below = station-below a some own (k + 1) small;
        in_all = in_every (cube_table a k) diagonal f (λ i l.
            joins a k (get_or f i 0) diagonal (at i l) (station-below a some own (k + 1) small) i (omega (arith, size))
            (sym (station_has a some own (k + 1) small i (omega (arith, size)))));
      }
    where
      -- coordinate i of the i-th quorum's own station
      own : ℕ → ℕ
      own i = coordinate a i (get_or f i 0)

      small : (i : ℕ) → i < k + 1 → own i < a
      small i l = coordinate-lt a some i (get_or f i 0)

      diagonal : ℕ
      diagonal = station_at a own (k + 1)

      at : (i : ℕ) → i < length f → get_or f i 0 < cube_stations a k
      at i l = omega (arith, number_at (length (cube_table a k)) f numbers i l, cube_length a k)

  -- ---- of two quorums neither lies within the other

  pub cube_apart : (p q : ℕ) → p < length (cube_table a k) → q < length (cube_table a k) → (p ≡ q → ⊥) → LiesWithin (cube_table a k) p q → ⊥
  cube_apart p q hp hq differ within = differ (station_ext a some (k + 1) p q p_below q_below same)
    where
      p_below : p < cube_stations a k
      p_below = omega (arith, cube_length a k)

      q_below : q < cube_stations a k
      q_below = omega (arith, cube_length a k)

      -- with one coordinate value only there is one station
      two : 1 < a
      two =
          by_cases (dec_lt 1 a) (λ h. h)
          (λ (h : ¬ (1 < a)). absurd (differ (station_ext a some (k + 1) p q p_below q_below
          (λ i l. omega (arith, coordinate-lt a some i p, coordinate-lt a some i q)))))

      -- the coordinates of a station that agrees with p where p and q differ, and with q nowhere
      own : ℕ → ℕ
      own i = unlike (coordinate a i p) (coordinate a i q)

      small : (i : ℕ) → i < k + 1 → own i < a
      small i l = unlike_lt a (coordinate a i p) (coordinate a i q) two (coordinate-lt a some i p)

      other : ℕ
      other = station_at a own (k + 1)

      other_below : other < cube_stations a k
      other_below = station-below a some own (k + 1) small

      outside : member (quorum (cube_table a k) q) other ≡ true → ⊥
      outside m =
          let (i, l, e) = joined a k q other q_below other_below m in
          unlike_right (coordinate a i p) (coordinate a i q) (sym (e ∙ station_has a some own (k + 1) small i l))

      same : (i : ℕ) → i < k + 1 → coordinate a i p ≡ coordinate a i q
      same i l =
          by_cases (ℕ_discrete (coordinate a i p) (coordinate a i q)) (λ e. e)
          (λ (d : coordinate a i p ≡ coordinate a i q → ⊥). absurd (outside (within other
          (joins a k p other p_below other_below i l (sym (station_has a some own (k + 1) small i l ∙ unlike_left (coordinate a i p) (coordinate a i q) d))))))

-- ---- the cube

-- what its tests leave
pub record CubeKept (a k room : ℕ) : Type 0 where
  pub stock : (1 ≤ k) × (k ≤ most_units)
  pub some : 0 < a
  pub stations : cube_stations a k ≤ most_stations
  pub enough : cube_stations a k ≤ room

pub cube_kept : (a k room : ℕ) → cube_refusal a k room ≡ 0 → CubeKept a k room
unfolding cube_refusal
cube_kept a k room e =
    let (two, (seventeen, (few, (enough, end)))) = passes_kept (cube_tests a k room) refl e in
    let (zero_a, large) = or_parts (eqb a 0) (ltb most_stations (cube_stations a k)) seventeen in
    let some : a ≡ 0 → ⊥ = eqb-false a 0 zero_a in
    record {
      stock = up_to_lem most_units k two;
      some = omega arith;
      stations = ltb-false most_stations (cube_stations a k) large;
      enough = omega (arith, ltb-false room (length (cube_table a k)) enough, cube_length a k);
    }

-- every cube that is written is accepted for its k
pub cube_accepted : (a k room : ℕ) → cube_refusal a k room ≡ 0 → Accepted (cube_stations a k) k (cube_table a k)
cube_accepted a k room e =
    arbiter_accepted (cube_stations a k) k (cube_table a k) (kept_limits (cube_stations a k) k (cube_table a k) limits)
    (record { intersection = cube_meet a k kept.some; minimality = cube_apart a k kept.some })
  where
    kept : CubeKept a k room
    kept = cube_kept a k room e

    stations : 1 ≤ cube_stations a k
    stations = one-le-pow (k + 1) a kept.some

    -- a quorum has its own station, and none from n on
    own : (p : ℕ) → p < length (cube_table a k) → (quorum (cube_table a k) p ≡ 0 → ⊥) × (quorum (cube_table a k) p < 2 ^ cube_stations a k)
    own p h =
        let below : p < cube_stations a k = omega (arith, cube_length a k) in (
          (λ z. clash (joins a k p p below below 0 (omega arith) refl) (ap (λ (s : ℕ). member s p) z ∙ member-zero p)),
          quorum-below a k p below,
        )

    limits : Limits (cube_stations a k) k (cube_table a k)
    limits =
        record {
          stations = (stations, kept.stations);
          stock = kept.stock;
          quorums = (omega (arith, cube_length a k, stations), omega (arith, cube_length a k, kept.stations));
          members = own;
        }
