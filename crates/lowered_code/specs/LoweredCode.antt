-- The code that lowering makes of a lifted program. This project's own.
use Rattle.std.specs.Prelude.{ℕ, List, [], length, map}
use Rattle.hy_core.specs.Resolved.{FunctionTree}
use Rattle.hy_core.specs.declared.info.FunInfo.{FunInfo}
use Rattle.hy_core.specs.declared.info.SiteInfo.{SiteInfo}
use Rattle.hy_ir.specs.Code.{Code, Function}
use Rattle.program_code.specs.ProgramCode.{parameter_registers}
use Rattle.lowered_code.specs.Builder.{Builder, Tail, End, beginning, written_tree}
use Rattle.lowered_code.specs.LoweredExpressions.{lowered}
use Rattle.lowered_code.specs.LoweredGuards.{bound_to}

-- a function whose body is written has as many registers as were given out
abbrev pub function_with : (params : ℕ) → Builder × End → Function
function_with params w = record {
  params = params;
  registers = w.0.next;
  body = written_tree w;
}

-- its parameters are in the registers from 0
abbrev pub lowered_function : FunctionTree → Function
lowered_function f =
    function_with (length f.parameters)
    (lowered f.body (bound_to f.parameters (parameter_registers 0 f.parameters) []) 1 Tail
    (beginning (length f.parameters)))

-- with the sites, the names of functions and the atoms of the program
abbrev pub lowered_code : List SiteInfo → List FunInfo → (atoms : List (List ℕ))
    → List FunctionTree → Code
lowered_code sites names atoms lifted = record {
  functions = map lowered_function lifted;
  sites = sites;
  names = names;
  atoms = atoms;
}
