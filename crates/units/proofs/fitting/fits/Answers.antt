-- `units::fits` meets its contract. What the stations before the one in hand were granted, beside the units; each has at most 255.
-- Assumes nothing.
use Rattle.std.proofs.Common.{◌≡◌, ◌+◌, ◌<◌, refl, sym, ap, ◌∙◌, arith, rules}
use Rattle.std.proofs.lemmas.List.{get_or-take, length-take-le}
use Rattle.lists.specs.Counting.{total}
use Rattle.lists.proofs.Totals.{total-more}
use Rattle.units.specs.Granted.{granted_of}
use Rattle.units.specs.Units.{no_units, fits}
use Rattle.units.specs.declared.Units.{Units}
use Rattle.units.proofs.Granting.{granted-at, granted-total}
use Rattle.units.proofs.fitting.fits.Goals as goal

pub loop-units-init : goal.loop-units-init
unfolding total
loop-units-init c = (search rules, search rules)

pub loop-units-preserved : goal.loop-units-preserved
loop-units-preserved c =
    let i = c.loop-units.units-index in
    let within : i < c.smaller-stations.result = omega (arith, length-take-le c.smaller-stations.result c.args.granted (omega (arith, c.smaller-stations.ensures))) in
    let here = ap (λ (u : Units). u.positions) (get_or-take c.smaller-stations.result c.args.granted i no_units within ∙ sym (granted-at c.args.n c.args.granted i (omega (arith, c.smaller-stations.ensures)))) in
    let t = total-more (λ i. (granted_of c.args.n c.args.granted i).positions) i in
    (omega (arith, here, t, c.loop-units.invariant.0), search rules)

pub returns : goal.returns
unfolding fits
returns c =
    let i = c.loop-units.units-index in
    let size = length-take-le c.smaller-stations.result c.args.granted (omega (arith, c.smaller-stations.ensures)) in
    let end : i ≡ c.smaller-stations.result = omega (arith, size) in
    let all = granted-total c.args.n c.args.granted (λ (u : Units). u.positions) refl i (omega (arith, c.smaller-stations.ensures)) (λ h. omega (arith, c.smaller-stations.ensures)) in
    let sum : c.loop-units.sum ≡ c.args.u.positions + total (λ i. (granted_of c.args.n c.args.granted i).positions) c.args.n = omega (arith, all, c.loop-units.invariant.0) in
    rw sum
