use Rattle.std.proofs.Common.{◌∙◌, ap, map}
use Rattle.renaming.specs.RenamedSyntax.{function_syntax, renamed_definition}
use Rattle.renaming.proofs.RenamedTrees.{functions-made}
use Rattle.renaming.proofs.program.rename_module.Goals as goal

pub returns : goal.returns
returns c =
    let m = c.args.source in
    let fs = functions-made c.args.limit m.functions _
    (c.in_ok-functions.ensures.renamed
    ∙ ap (λ s. map (renamed_definition c.args.limit s) (map function_syntax m.functions))
    c.new-scope.ensures) in
    ap (λ fs. record m { functions = fs }) fs
