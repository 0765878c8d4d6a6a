-- The code of a program means, labels dropped, what the program means.
use Rattle.std.proofs.Common.{◌≡◌, ◌≢◌, ℕ, zero, suc, ◌+◌, ◌<◌, List, [], ◌∷◌, ◌++◌, length, map}
use Rattle.std.proofs.Common.{true, false, Some, None, refl, sym, ap, ◌∙◌, subst, ⊎_elim, arith}
use Rattle.std.specs.Prelude.{◌==◌, if◌then◌else◌, slice_get, slice_index_or}
use Rattle.std.proofs.lemmas.Bool.Decides.{eqb_tells}
use Rattle.hy_terms.specs.Labelled.{Labelled, Nil, erase}
use Rattle.hy_terms.specs.Term.{Term}
use Rattle.hy_terms.specs.declared.term.Colour.{Colour}
use Rattle.hy_core.specs.declared.tree.Program.{Program}
use Rattle.hy_core.specs.Comparison.{map_input}
use Rattle.hy_core.specs.Computation.{Give, Raise, Fault, Input}
use Rattle.hy_core.specs.Evaluation as evaluation
use Rattle.hy_core.specs.Evaluation.{Callee, Top, Inner, in_env, enter, denote}
use Rattle.hy_core.specs.FullRun.{trees_of}
use Rattle.hy_core.specs.KnownTrees.{TreesAreKnown}
use Rattle.hy_core.specs.Match.{Env, Empty, Bound, bind_variables}
use Rattle.hy_core.specs.Resolved.{FunctionTree}
use Rattle.hy_core.specs.Tables.{program_atoms}
use Rattle.hy_core.specs.SameProgram.{waits}
use Rattle.hy_core.proofs.Comparing.{run_behind}
use Rattle.hy_core.proofs.Simulating.{simulates_run}
use Rattle.hy_ir.specs.Acts.{Called, Has}
use Rattle.hy_ir.specs.Code.{Code, Function, MakeTree}
use Rattle.hy_ir.specs.Meaning.{one_to, body_of, entered, meaning, tree, waiting}
use Rattle.hy_ir.specs.Registers.{Registers, entering, gets}
use Rattle.lifted_program.specs.LiftingLaws.{lifting_of}
use Rattle.lifted_program.proofs.LiftingKeeps.{bind_give}
use Rattle.lifted_program.proofs.Whole.{whole}
use Rattle.program_code.specs.CodeLaws.{MeansAs, shown}
use Rattle.program_code.specs.ProgramCode.{IsFunctionOf, parameter_registers, AreFunctionsOf}
use Rattle.program_code.specs.ProgramCode.{IsCode, IsCodeOfProgram}
use Rattle.program_code.specs.WrittenRegisters.{tree_writes}
use Rattle.program_code.proofs.RegisterLemmas.{NoTwice, no_twice, twice_back, twice_apart}
use Rattle.program_code.proofs.HeldLemmas.{agree_bind, all_bind}
use Rattle.program_code.proofs.Following.{SameCall, Follows}
use Rattle.program_code.proofs.Central.{sim_whole}

-- the parameters' registers hold the arguments
arguments_held : (xs : List ℕ) (ts : List Labelled) (k : ℕ) (regs : Registers)
    → length ts ≡ length xs → ((i : ℕ) → regs (k + i) ≡ slice_index_or ts i Nil)
    → gets (parameter_registers k xs) regs ≡ ts
arguments_held [] [] k regs e h = refl
arguments_held [] (t ∷ ts) k regs e h = absurd (suc_zero e)
  where
    suc_zero : {n : ℕ} → suc n ≡ zero → ⊥
    suc_zero p = cc
arguments_held (x ∷ xs) [] k regs e h = absurd (zero_suc e)
  where
    zero_suc : {n : ℕ} → zero ≡ suc n → ⊥
    zero_suc p = cc
arguments_held (x ∷ xs) (t ∷ ts) k regs e h =
    let here : regs k ≡ t = ap regs (omega arith) ∙ h 0 in
    let less : length ts ≡ length xs = cc in
    λ i. here i ∷ arguments_held xs ts (suc k) regs less (λ j. ap regs (omega arith) ∙ h (suc j)) i

-- with another number of arguments than parameters nothing is bound
unbound : (xs : List ℕ) (ts : List Labelled) (env : Env) → length ts ≢ length xs
    → bind_variables xs (map erase ts) env ≡ None
unbound [] [] env h = absurd (h refl)
unbound [] (t ∷ ts) env h = refl
unbound (x ∷ xs) [] env h = refl
unbound (x ∷ xs) (t ∷ ts) env h = unbound xs ts (Bound x (erase t) env) (λ e. h (ap suc e))

module _ (code : Code) (place : ℕ → Colour) (pid : ℕ) where
  one_given : (ts : List Labelled) → length ts ≡ 1
      → Follows code place pid (Give (map erase ts)) (one_to (λ t. Give (t ∷ [])) ts)
  one_given [] e = absurd (zero_one e)
    where
      zero_one : zero ≡ suc zero → ⊥
      zero_one p = cc
  one_given (t ∷ []) e = refl
  one_given (t ∷ u ∷ ts) e = absurd (two_one (length ts) e)
    where
      two_one : (n : ℕ) → suc (suc n) ≡ 1 → ⊥
      two_one n p = omega arith

  -- a function is carried out
  function_follows : (of : FunctionTree) (f : Function) (ts : List Labelled)
      → IsFunctionOf code.sites of f
      → Follows code place pid (in_env (denote code.atoms pid of.body)
      (bind_variables of.parameters (map erase ts) Empty)) (entered code place pid (Some f) ts)
  function_follows of f ts d =
      subst (λ n. Follows code place pid
      (in_env (denote code.atoms pid of.body)
      (bind_variables of.parameters (map erase ts) Empty))
      (if length ts == n then tree code place pid f.body (entering ts)
      (λ vs regs. one_to (λ t. Give (t ∷ [])) vs) (λ class reason regs. Raise class reason)
      else Fault)) (sym d.params)
      (⊎_elim here gone (eqb_tells (length ts) (length of.parameters)))
    where
      here : ((length ts == length of.parameters) ≡ true) × (length ts ≡ length of.parameters)
          → Follows code place pid (in_env (denote code.atoms pid of.body)
          (bind_variables of.parameters (map erase ts) Empty))
          (if length ts == length of.parameters then tree code place pid f.body (entering ts)
          (λ vs regs. one_to (λ t. Give (t ∷ [])) vs) (λ class reason regs. Raise class reason)
          else Fault)
      here y =
          let ns = parameter_registers 0 of.parameters in
          let ws = tree_writes (MakeTree d.parts d.last) in
          let once : NoTwice (ns ++ ws) = subst (λ t. NoTwice (ns ++ tree_writes t)) d.body
          (no_twice (ns ++ tree_writes f.body) d.once) in
          let regs : Registers = entering ts in
          let filled : gets ns regs ≡ ts = arguments_held of.parameters ts 0 regs y.1
          (λ i. ap regs (omega arith)) in
          let g = agree_bind of.parameters ns Empty [] d.held regs d.holds tt in
          let bound = subst (λ vs. bind_variables of.parameters (map erase vs) Empty ≡ Some g.0)
          filled g.1 in
          let s = sim_whole code place pid d.carries_out g.0 regs g.2
          (all_bind of.parameters ns [] d.held ws d.holds tt (twice_apart ns ws once))
          (twice_back ns ws once) in
          let body = subst (λ p. Follows code place pid p
          (tree code place pid (MakeTree d.parts d.last) regs
          (λ vs r. one_to (λ t. Give (t ∷ [])) vs) (λ class reason r. Raise class reason)))
          (bind_give (denote code.atoms pid of.body g.0))
          (s.go Give Raise (λ vs r. one_to (λ t. Give (t ∷ [])) vs)
          (λ class reason r. Raise class reason) (λ vs r n keep. one_given vs n)
          (λ class u r keep. (refl, refl))) in
          let body' = subst (λ t. Follows code place pid (denote code.atoms pid of.body g.0)
          (tree code place pid t regs (λ vs r. one_to (λ t. Give (t ∷ [])) vs)
          (λ class reason r. Raise class reason))) (sym d.body) body in
          let in_scope = subst (λ o. Follows code place pid
          (in_env (denote code.atoms pid of.body) o)
          (tree code place pid f.body regs (λ vs r. one_to (λ t. Give (t ∷ [])) vs)
          (λ class reason r. Raise class reason))) (sym bound) body' in
          subst (λ b. Follows code place pid
          (in_env (denote code.atoms pid of.body)
          (bind_variables of.parameters (map erase ts) Empty))
          (if b then tree code place pid f.body regs (λ vs r. one_to (λ t. Give (t ∷ [])) vs)
          (λ class reason r. Raise class reason) else Fault)) (sym y.0) in_scope

      gone : ((length ts == length of.parameters) ≡ false) × (length ts ≢ length of.parameters)
          → Follows code place pid (in_env (denote code.atoms pid of.body)
          (bind_variables of.parameters (map erase ts) Empty))
          (if length ts == length of.parameters then tree code place pid f.body (entering ts)
          (λ vs regs. one_to (λ t. Give (t ∷ [])) vs) (λ class reason regs. Raise class reason)
          else Fault)
      gone n =
          subst (λ b. Follows code place pid
          (in_env (denote code.atoms pid of.body)
          (bind_variables of.parameters (map erase ts) Empty))
          (if b then tree code place pid f.body (entering ts)
          (λ vs regs. one_to (λ t. Give (t ∷ [])) vs) (λ class reason regs. Raise class reason)
          else Fault)) (sym n.0)
          (subst (λ o. Follows code place pid (in_env (denote code.atoms pid of.body) o) Fault)
          (sym (unbound of.parameters ts Empty n.1)) tt)

  functions_follow : (program : List FunctionTree) (ofs : List FunctionTree) (fs : List Function)
      → AreFunctionsOf code.sites ofs fs → (f : ℕ) (ts : List Labelled)
      → Follows code place pid (enter program code.atoms pid (slice_get ofs f) (map erase ts) Empty)
      (entered code place pid (slice_get fs f) ts)
  functions_follow program [] [] d f ts = tt
  functions_follow program (of ∷ ofs) (g ∷ gs) d zero ts = function_follows of g ts d.0
  functions_follow program (of ∷ ofs) (g ∷ gs) d (suc f) ts = functions_follow program ofs gs d.1 f
      ts
  functions_follow program [] (g ∷ gs) d f ts = absurd d
  functions_follow program (of ∷ ofs) [] d f ts = absurd d

  bodies_follow : (lifted : List FunctionTree) → IsCode lifted code
      → (f : Callee) (vs : List Term) (g : ℕ) (us : List Labelled) → SameCall f vs g us
      → Follows code place pid (evaluation.body_of lifted code.atoms pid f vs)
      (body_of code place pid g us)
  bodies_follow lifted d (Top f) vs g us h =
      subst (λ ts. Follows code place pid (evaluation.body_of lifted code.atoms pid (Top f) ts)
      (body_of code place pid g us)) h.1
      (subst (λ n. Follows code place pid
      (evaluation.body_of lifted code.atoms pid (Top f) (map erase us))
      (body_of code place pid n us)) (sym h.0)
      (functions_follow lifted lifted code.functions d f us))
  bodies_follow lifted d (Inner f fs env) vs g us h = absurd h

-- a code of a lifted program means what the program means
pub lifted_means : (lifted : List FunctionTree) (code : Code) → IsCode lifted code → (f : ℕ)
    → MeansAs code.atoms lifted code f
lifted_means lifted code d f place pid calls ts inputs =
    simulates_run erase Has (Called ∷ []) shown (λ event. Unit {0}) SameCall (waits code.atoms pid)
    (waiting code place pid) (evaluation.body_of lifted code.atoms pid) (body_of code place pid)
    refl
    (bodies_follow code place pid lifted d) calls
    (evaluation.body_of lifted code.atoms pid (Top f) (map erase ts))
    (body_of code place pid f ts) inputs
    (functions_follow code place pid lifted lifted code.functions d f ts)

-- a code of a known program means what the program means, under the atoms of the code
known_means : (program : Program) (code : Code) → TreesAreKnown (trees_of program)
    → IsCodeOfProgram program code → (f : ℕ) → f < length (trees_of program)
    → MeansAs code.atoms (trees_of program) code f
known_means program code known d f below place pid calls ts inputs =
    let source = trees_of program in
    let lifted = lifting_of d.limit d.captured source in
    let arguments : List Term = map erase ts in
    let taken : List (Input Term) = map (map_input erase) inputs in
    let same = whole d.limit source d.captured known d.free code.atoms calls in
    run_behind erase (waits code.atoms pid) (waits code.atoms pid) (waiting code place pid) shown
    (evaluation.run_of source code.atoms pid calls
    (evaluation.body_of source code.atoms pid (Top f) arguments) taken)
    (evaluation.run_of lifted code.atoms pid calls
    (evaluation.body_of lifted code.atoms pid (Top f) arguments) taken)
    (meaning code place pid f ts calls inputs) (same.runs pid f below arguments taken)
    (lifted_means lifted code d.functions f place pid calls ts inputs)

-- which are those of the program
pub program_means : (program : Program) (code : Code) → TreesAreKnown (trees_of program)
    → IsCodeOfProgram program code → (f : ℕ) → f < length (trees_of program)
    → MeansAs (program_atoms program) (trees_of program) code f
program_means program code known d f below =
    subst (λ atoms. MeansAs atoms (trees_of program) code f) d.atoms
    (known_means program code known d f below)
