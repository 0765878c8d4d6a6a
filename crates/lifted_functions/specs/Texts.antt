-- The functions of a lifted program as syntax. This project's own.
use Rattle.std.specs.Prelude.{ℕ, List, map}
use Rattle.hy_core.specs.Resolve.{Names}
use Rattle.hy_core.specs.Syntax.{syntax_of}
use Rattle.hy_core.specs.declared.info.FunInfo.{FunInfo}
use Rattle.lifted_functions.specs.declared.lifted_text.LiftedText.{LiftedText}
use Rattle.lifted_syntax.specs.ExtractedSyntax.{FunctionSyntax}

abbrev pub text_syntax : LiftedText → FunctionSyntax
text_syntax f = record { parameters = f.params; body = syntax_of f.body }

abbrev pub texts : List LiftedText → List FunctionSyntax
texts = map text_syntax

abbrev pub names_with : (atoms : List (List ℕ)) → List FunInfo → Names
names_with atoms functions = record { atoms = atoms; functions = functions }
