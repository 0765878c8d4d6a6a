use Rattle.std.proofs.Common.{◌∙◌, arith, take}
use Rattle.hybrid_run.specs.Loading.{StopsLoading, sourced}
use Rattle.hybrid_run.proofs.Loaded.{each_of_text, read_next, stops_loading}
use Rattle.hybrid_run.proofs.Residuals.{fault_handed_on}
use Rattle.hybrid_run.proofs.load.load_all.Goals as goal

pub returns-in_err-module-clause-stops : goal.returns-in_err-module-clause-stops
returns-in_err-module-clause-stops g c =
    let told = g.S.Sources.told c.args.sources.now in
    let first = g.S.Sources.faults c.args.sources.now in
    let old = g.S.Sources.faults c.loop-place.sources in
    let new = g.S.Sources.faults c.load.new.sources in
    fault_handed_on (StopsLoading (sourced told first new) c.args.files.now) c.from_residual.result c.in_err-module.field-0.0 c.from_residual.ensures.1
    (stops_loading told first old new (g.S.Sources.told c.loop-place.sources) c.args.files.now c.loop-place.place c.loop-place.modules.items c.word.result.now c.word.ensures
    c.loop-place.invariant.same c.loop-place.invariant.counts c.loop-place.invariant.read c.in_err-module.field-0.0 c.in_err-module.ensures.stops)

pub loop-place-preserved : goal.loop-place-preserved
loop-place-preserved g c = record {
  read =
      read_next (g.S.Sources.told c.args.sources.now) (g.S.Sources.told c.loop-place.sources) c.args.files.now c.loop-place.place c.loop-place.modules.items c.push.new.self.items c.word.result.now c.in_ok-module.module c.word.ensures
      c.loop-place.invariant.same c.loop-place.invariant.read c.in_ok-module.ensures.loaded c.in_ok-push.ensures.items;
  same = λ other. c.load.ensures.same other ∙ c.loop-place.invariant.same other;
  counts = λ other. (let before = c.loop-place.invariant.counts other in let now = c.load.ensures.counts other in omega (arith, before, now));
}

pub returns-clause-texts : goal.returns-clause-texts
returns-clause-texts g c =
    each_of_text (g.S.Sources.told c.args.sources.now) (take c.loop-place.place c.args.files.now)
    c.loop-place.modules.items c.loop-place.invariant.read
