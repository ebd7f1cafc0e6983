-- `tables::uniform` meets its contract: refused, or all sets stored from the front.
-- Assumes nothing.
use Rattle.std.proofs.Common.{length, sym, ◌∙◌, arith}
use mathlib.Core.Path.{ap₂}
use lib.Pow.{pow_mono}
use Rattle.stations.specs.Sizes.{choose}
use Rattle.tables.specs.Inner.Stored.{stored}
use Rattle.tables.specs.Uniform.{uniform_table, uniform_size}
use Rattle.tables.proofs.Making.{on_table}
use Rattle.tables.proofs.UniformArbiter.{uniform_kept, uniform_length}
use Rattle.tables.proofs.WritingSets.{stored_front}
use Rattle.tables.proofs.uniform.Goals as goal

pub write-requires : goal.write-requires
write-requires c =
    let n = c.args.n in
    let k = c.args.k in
    let (stations, size) = c.in_ok-sets.ensures.made in
    let kept = uniform_kept n k (length c.args.out.now) (sym c.in_ok-sets.ensures.refused) in
    rw (stations, size) (omega (arith, pow_mono {i = n} {j = 16} (omega (arith, kept.stations.1))), omega (arith, kept.enough, uniform_length n k))

pub returns : goal.returns
unfolding uniform_table
returns c =
    let n = c.args.n in
    let k = c.args.k in
    let out = c.args.out.now in
    let (stations, size) = c.in_ok-sets.ensures.made in
    let kept = uniform_kept n k (length out) (sym c.in_ok-sets.ensures.refused) in
    let done = c.write in
    let (answered, written) = on_table (uniform_table n k) out _
    done.result done.new.out c.in_ok-sets.ensures.refused
    (done.ensures.counted ∙ ap₂ choose stations size ∙ sym (uniform_length n k))
    kept.enough
    (done.ensures.written ∙ ap₂ (stored out 0) stations size ∙ stored_front out n (uniform_size n k)) in
    record { answered = answered; written = written }
