use Rattle.hybrid_run.proofs.Evaluating.{if_ok}
use Rattle.hybrid_run.proofs.Loaded.{bytes_told, read_whole, stops_parsing}
use Rattle.hybrid_run.proofs.Residuals.{if_err}
use Rattle.hybrid_run.specs.Loading.{sourced}
use Rattle.hybrid_run.proofs.load.load.Goals as goal

pub returns-in-Ok-clause-loaded : goal.returns-in-Ok-clause-loaded
returns-in-Ok-clause-loaded g c =
    let told = g.S.Sources.told c.args.sources.now in
    let name = c.args.name.now in
    if_ok c.parse.result (λ z read. read_whole told name c.as_slice.result.now z (bytes_told (told name) c.in-Ok.text.items c.as_slice.result.now c.as_slice.ensures.value c.in-Ok.ensures.text) read) c.parse.ensures.loaded

pub returns-in-Ok-clause-stops : goal.returns-in-Ok-clause-stops
returns-in-Ok-clause-stops g c =
    let told = g.S.Sources.told c.args.sources.now in
    let name = c.args.name.now in
    let sources = sourced told (g.S.Sources.faults c.args.sources.now) (g.S.Sources.faults c.read.new.self) in
    if_err c.parse.result (λ fault stops. stops_parsing sources c.args.file name c.as_slice.result.now fault (bytes_told (told name) c.in-Ok.text.items c.as_slice.result.now c.as_slice.ensures.value c.in-Ok.ensures.text) stops) c.parse.ensures.stops
