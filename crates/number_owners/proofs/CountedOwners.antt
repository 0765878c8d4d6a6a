-- The functions that numbering names at the sites of a tree are those in which the sites stand.
use Rattle.std.proofs.Common.{◌≡◌, ◌==◌, ◌&&◌, ◌+◌, ℕ, zero, suc, true, false, true≢false, Bool, List, [], ◌∷◌, ◌++◌, arith}
use Rattle.std.proofs.Common.{length, map, replicate, codes, Option, Some, None, refl, sym, ap, ◌∙◌, subst, if◌then◌else◌}
use Rattle.std.proofs.lemmas.Bool.{and_parts}
use Rattle.std.proofs.lemmas.List.{append-nil, append_assoc, map-append}
use Rattle.std.specs.List.{Contains}
use Rattle.std.specs.Str.{bytes_eq}
use Rattle.hy_terms.specs.Naming.{text_of}
use Rattle.hy_core.specs.BuiltIn.{Operation, Plain, SetsElement, Sends, Spawns, Displays, RaisesAs}
use Rattle.hy_core.specs.BuiltIn.{operation_named}
use Rattle.hy_core.specs.Counting.{Counts, Numbering, next, at_node, made}
use Rattle.hy_core.specs.Numbered.{all_numbered, clauses_numbered, definitions_numbered, is_nil}
use Rattle.hy_core.specs.Numbered.{numbered, sites_of, spawn_numbered, tail_numbered}
use Rattle.hy_core.specs.Resolve.{Names, applied_head, call_of, defined_names, function_called}
use Rattle.hy_core.specs.Resolve.{function_head, function_number, is_local, is_match_fail, named_call}
use Rattle.hy_core.specs.Resolve.{resolve, resolve_all, resolve_clauses, resolve_definitions}
use Rattle.hy_core.specs.Resolve.{resolve_guard, resolve_spawn, spawn_head}
use Rattle.hy_core.specs.Resolved as r
use Rattle.hy_core.specs.Resolved.{Expression, Expressions}
use Rattle.hy_core.specs.Scopes.{Scope, with_patterns, with_variables}
use Rattle.hy_core.specs.SubPatterns.{patterns_in}
use Rattle.hy_core.specs.Supplied.{expression_count}
use Rattle.hy_core.specs.Syntax as s
use Rattle.hy_core.specs.Syntax.{Syntax, Syntaxes, NoSyntax, MoreSyntax, pattern_trees}
use Rattle.hy_core.specs.Syntax.{count as arguments}
use Rattle.hy_core.specs.declared.info.SiteInfo.{SiteInfo}
use Rattle.hy_core.specs.declared.info.SiteKind.{SiteKind}
use Rattle.hy_core.specs.declared.info.SiteKind.TheVariants as kind
use Rattle.hy_core.specs.declared.tree.FunName.{FunName}
use Rattle.hy_core.specs.declared.tree.Module.{Module}
use Rattle.hy_core.specs.declared.tree.Program.{Program}
use Rattle.core_accepted.proofs.FineTrees.{AreFine, CallIsFine, ClausesAreFine, FunctionsAreFine}
use Rattle.core_accepted.proofs.FineTrees.{GuardIsFine, IsFine, MayCall, MayApply, SpawnIsFine}
use Rattle.core_accepted.proofs.FineTrees.{TimeoutIsFine, named, width_of}
use Rattle.core_accepted.proofs.ResolvedKnown.{Found, NamesAgree, args_of, both_hold, count_numbered}
use Rattle.core_accepted.proofs.ResolvedKnown.{count_resolved, count_spawned, current, guard_map}
use Rattle.core_accepted.proofs.ResolvedKnown.{inside_is, name, names, not_spawned, number, table}
use Rattle.core_accepted.proofs.ResolvedKnown.{timeout_is}
use Rattle.lifted_program.specs.LetrecNumbers.{count, count_all, count_clauses, count_functions}
use Rattle.number_owners.specs.SiteOwners.{all_owners, clauses_owners, functions_owners}
use Rattle.number_owners.specs.SiteOwners.{head_owners, owners}

-- the functions that are named at the sites so far
abbrev pub counted : Counts → List ℕ
counted c = map (λ (site : SiteInfo). site.function) c.sites

-- What is numbered between has m functions of letrecs, and its sites have these owners where the
-- first of them has the number n.
pub record Numbers (c d : Counts) (m : ℕ) (os : (n : ℕ) → List ℕ) : Type 0 where
  pub locals : d.local ≡ c.local + m
  pub sites : counted d ≡ counted c ++ os c.local

-- one part, and behind it another one
pub both : {c d e : Counts} {m l : ℕ} {os ps : ℕ → List ℕ} → Numbers c d m os → Numbers d e l ps
    → Numbers c e (m + l) (λ n. os n ++ ps (n + m))
both {c = c} {m = m} {l = l} {os = os} {ps = ps} h g = record {
  locals = omega (arith, h.locals, g.locals);
  sites =
      g.sites ∙ (λ i. h.sites i ++ ps (h.locals i))
      ∙ append_assoc (counted c) (os c.local) (ps (c.local + m));
}

pub nothing : (c : Counts) → Numbers c c 0 (λ n. [])
nothing c = record { locals = omega arith; sites = sym (append-nil (counted c)) }

-- a node's own sites
abbrev pub behind_node : List SiteKind → ℕ → Counts → Counts
behind_node own k c = (at_node own made k c).1

abbrev pub by_owner : ℕ → List SiteKind → List ℕ
by_owner k own = map (λ (j : SiteKind). k) own

owned_by : (own : List SiteKind) (k node : ℕ)
    → map (λ (site : SiteInfo). site.function)
    (map (λ (j : SiteKind). record { function = k; node = node; kind = j }) own)
    ≡ by_owner k own
owned_by [] k node = refl
owned_by (j ∷ own) k node = ap (λ js. k ∷ js) (owned_by own k node)

at_own : (own : List SiteKind) (k : ℕ) (c : Counts)
    → counted (behind_node own k c) ≡ counted c ++ by_owner k own
at_own own k c =
    map-append (λ (site : SiteInfo). site.function) c.sites
    (map (λ (j : SiteKind). record { function = k; node = c.node; kind = j }) own)
    ∙ ap (λ ks. counted c ++ ks) (owned_by own k c.node)

-- a node with its own sites, and behind it others
pub from_own : (own : List SiteKind) (k : ℕ) {c d : Counts} {m : ℕ} {os : ℕ → List ℕ}
    → Numbers (behind_node own k c) d m os → Numbers c d m (λ n. by_owner k own ++ os n)
from_own own k {c = c} {os = os} h = record {
  locals = h.locals;
  sites =
      h.sites ∙ ap (λ before. before ++ os c.local) (at_own own k c)
      ∙ append_assoc (counted c) (by_owner k own) (os c.local);
}

pub from_plain : (k : ℕ) {c d : Counts} {m : ℕ} {os : ℕ → List ℕ}
    → Numbers (behind_node [] k c) d m os → Numbers c d m os
from_plain k h = from_own [] k h

pub then_plain : (k : ℕ) {c d : Counts} {m : ℕ} {os : ℕ → List ℕ}
    → Numbers c d m os → Numbers c (behind_node [] k d) m os
then_plain k {d = d} h = record {
  locals = h.locals;
  sites = at_own [] k d ∙ append-nil (counted d) ∙ h.sites;
}

own_alone : (own : List SiteKind) (k : ℕ) (c : Counts)
    → Numbers c (behind_node own k c) 0 (λ n. by_owner k own)
own_alone own k c = record { locals = omega arith; sites = at_own own k c }

alone : (k : ℕ) (c : Counts) → Numbers c (behind_node [] k c) 0 (λ n. [])
alone k c = own_alone [] k c

-- the same, told of another expression
pub told_as : {c d : Counts} {m l : ℕ} {os ps : ℕ → List ℕ} → m ≡ l
    → ((n : ℕ) → os n ≡ ps n) → Numbers c d m os → Numbers c d l ps
told_as {c = c} m os h = record {
  locals = h.locals ∙ ap (λ m. c.local + m) m;
  sites = h.sites ∙ ap (λ ks. counted c ++ ks) (os c.local);
}

by_heads : (k heads : ℕ) → by_owner k (replicate heads kind.Cons) ≡ replicate heads k
by_heads k zero = refl
by_heads k (suc heads) = ap (λ ks. k ∷ ks) (by_heads k heads)

-- an expression that is a call with these arguments: its own sites are of these kinds
record IsCall (own : List SiteKind) (es : Expressions) (e : Expression) : Type 0 where
  locals : count e ≡ count_all es
  sites : (k n : ℕ) → owners k n e ≡ by_owner k own ++ all_owners k n es

module _ (program : Program) (m : Module) (arities : List ℕ)
    (agree : NamesAgree program m arities) where
  abbrev atoms : List (List ℕ)
  atoms = table program m arities

  abbrev called_names : Names
  called_names = names program m arities

  abbrev here : ℕ
  here = current program m arities

  abbrev numeral : ℕ → ℕ
  numeral = number program m arities

  abbrev renaming : FunName → FunName
  renaming = name program m arities

  abbrev all_resolved : Syntaxes → List FunName → Expressions
  all_resolved xs locals = resolve_all called_names here xs locals

  -- calls

  plain_call : (head : r.Head) (es : Expressions) → ((k : ℕ) → head_owners k head ≡ [])
      → IsCall [] es (r.Call head es)
  plain_call head es none = record {
    locals = refl;
    sites = λ k n. ap (λ ks. ks ++ all_owners k n es) (none k);
  }

  function_call : (found : Option ℕ) (n : ℕ) (es : Expressions) → Found arities found n
      → IsCall [] es (call_of (function_head found) es)
  function_call (Some f) n es h = plain_call (r.Function f) es (λ k. refl)
  function_call None n es h = absurd h

  spawn_call : (found : Option ℕ) (n : ℕ) (es : Expressions) → Found arities found n
      → IsCall [] es (call_of (spawn_head found) es)
  spawn_call (Some f) n es h = plain_call (r.Spawn 0 f) es (λ k. refl)
  spawn_call None n es h = absurd h

  applied_call : (locals : List FunName) (f : FunName) (es : Expressions)
      → MayApply program m locals f
      → IsCall [] es
      (call_of (applied_head called_names here (renaming f) (map renaming locals)) es)
  applied_call locals f es may = by (is_local (renaming f) (map renaming locals)) refl
    where
      by : (b : Bool) → is_local (renaming f) (map renaming locals) ≡ b
          → IsCall [] es
          (call_of
          (if b then Some (r.Local (renaming f))
          else function_head (function_number called_names.functions here (renaming f))) es)
      by true e = plain_call (r.Local (renaming f)) es (λ k. refl)
      by false e =
          let outside : Contains locals f → ⊥ =
          λ h. true≢false (sym (agree.around f locals h) ∙ e) in
          function_call (function_number called_names.functions here (renaming f)) f.arity es
          (agree.applied f (may outside))

  named_is_call : (o : Option Operation) (a b n : ℕ) (es : Expressions) (spawned : Expression)
      → (o ≡ Some Spawns → ⊥) → (o ≡ None → MayCall program m a b n)
      → IsCall (sites_of o) es
      (named_call called_names here (numeral a) (numeral b) n o es spawned)
  named_is_call None a b n es spawned other may =
      function_call (function_called called_names here (numeral a) (numeral b) n) n es
      (agree.called a b n (may refl))
  named_is_call (Some (Plain f)) a b n es spawned other may =
      plain_call (r.BuiltIn f) es (λ k. refl)
  named_is_call (Some SetsElement) a b n es spawned other may =
      record { locals = refl; sites = λ k n. refl }
  named_is_call (Some Sends) a b n es spawned other may = plain_call (r.Send 0) es (λ k. refl)
  named_is_call (Some Spawns) a b n es spawned other may = absurd (other refl)
  named_is_call (Some Displays) a b n es spawned other may =
      plain_call (r.Display 0) es (λ k. refl)
  named_is_call (Some (RaisesAs class)) a b n es spawned other may =
      plain_call (r.Raising class) es (λ k. refl)

  -- the program's names tell the same operation
  same_named : (o : Option Operation) (a b : ℕ) (args xs : Syntaxes)
      → arguments xs ≡ arguments args → named program m a b (arguments args) ≡ o
      → operation_named (text_of atoms (numeral a)) (text_of atoms (numeral b)) (arguments xs) ≡ o
  same_named o a b args xs is e =
      ap (λ n. operation_named (text_of atoms (numeral a)) (text_of atoms (numeral b)) n) is
      ∙ agree.operations a b (arguments args) ∙ e

  may_of : (o : Option Operation) (a b : ℕ) (args : Syntaxes) → CallIsFine program m o a b args
      → o ≡ None → MayCall program m a b (arguments args)
  may_of None a b args h e = h
  may_of (Some o) a b args h e = absurd cc

  other_call : (o : Option Operation) (a b : ℕ) (args xs : Syntaxes) (locals : List FunName)
      → (o ≡ Some Spawns → ⊥) → named program m a b (arguments args) ≡ o
      → CallIsFine program m o a b args → arguments xs ≡ arguments args
      → IsCall (sites_of o) (all_resolved xs locals)
      (resolve called_names here (s.Call (s.Atom (numeral a)) (s.Atom (numeral b)) xs) locals)
  other_call o a b args xs locals other e fine is =
      let es = all_resolved xs locals in
      let spawned = resolve_spawn called_names here xs locals in
      subst
      (λ p. IsCall (sites_of o) es
      (named_call called_names here (numeral a) (numeral b) (arguments xs) p es spawned))
      (sym (same_named o a b args xs is e))
      (named_is_call o a b (arguments xs) es spawned other
      (λ none. subst (MayCall program m a b) (sym is) (may_of o a b args fine none)))

  -- a call, by what it names and by the numbering of its arguments
  abbrev called_as : Option Operation → (a b : ℕ) → Numbering Syntaxes → Numbering Syntax
  called_as o a b numbering =
      at_node (sites_of o) λ _. next (numbered atoms m (s.Atom a)) λ x.
      next (numbered atoms m (s.Atom b)) λ y. next numbering λ xs. made (s.Call x y xs)

  -- what is numbered between is what an expression has
  abbrev Numbered : ℕ → Counts → Counts → Expression → Type 0
  Numbered k c d e = Numbers c d (count e) (λ n. owners k n e)

  abbrev AllNumbered : ℕ → Counts → Counts → Expressions → Type 0
  AllNumbered k c d es = Numbers c d (count_all es) (λ n. all_owners k n es)

  abbrev IsSited : Option Operation → (a b : ℕ) → List FunName → Numbering Syntaxes → Type 0
  IsSited o a b locals numbering =
      (k : ℕ) (c : Counts) → Numbered k c (called_as o a b numbering k c).1
      (resolve called_names here (called_as o a b numbering k c).0 locals)

  abbrev behind_names : Option Operation → ℕ → Counts → Counts
  behind_names o k c = behind_node [] k (behind_node [] k (behind_node (sites_of o) k c))

  abbrev AreSited : Syntaxes → List FunName → Type 0
  AreSited xs locals =
      (k : ℕ) (c : Counts) → AllNumbered k c (all_numbered atoms m xs k c).1
      (all_resolved (all_numbered atoms m xs k c).0 locals)

  -- a function of a letrec has the next number, and its sites are its own
  function_and_others : {c d e : Counts} (f : FunName) (xs : List ℕ) (b : Expression)
      (fs : r.Functions) → Numbered c.local (record c { local = suc c.local }) d b
      → Numbers d e (count_functions fs) (λ n. functions_owners n fs)
      → Numbers c e (count_functions (r.MoreFunctions f xs b fs))
      (λ n. functions_owners n (r.MoreFunctions f xs b fs))
  function_and_others {c = c} f xs b fs h g =
      let behind = h.locals in record {
        locals = omega (arith, g.locals, h.locals);
        sites =
            g.sites ∙ (λ i. h.sites i ++ functions_owners (behind i) fs)
            ∙ append_assoc (counted c) (owners c.local (suc c.local) b)
            (functions_owners (suc c.local + count b) fs)
            ∙ ap
            (λ n. counted c ++ (owners c.local (suc c.local) b ++ functions_owners n fs))
            (let same : suc c.local + count b ≡ suc (c.local + count b) = omega arith in same);
      }

  -- a call has its own sites, and then those of its arguments
  of_call : (own : List SiteKind) (k : ℕ) {c d : Counts} {es : Expressions} {e : Expression}
      → IsCall own es e → Numbers c d (count_all es) (λ n. by_owner k own ++ all_owners k n es)
      → Numbered k c d e
  of_call own k is h = told_as (sym is.locals) (λ n. sym (is.sites k n)) h

  other_sited : (o : Option Operation) (a b : ℕ) (args : Syntaxes) (locals : List FunName)
      → (o ≡ Some Spawns → ⊥) → named program m a b (arguments args) ≡ o
      → CallIsFine program m o a b args → AreSited args locals
      → IsSited o a b locals (args_of program m arities agree o args)
  other_sited o a b args locals other e fine parts =
      subst (IsSited o a b locals) (sym (not_spawned program m arities agree o args other))
      (λ k c.
      let before = behind_names o k c in
      let xs = (all_numbered atoms m args k before).0 in
      of_call (sites_of o) k
      (other_call o a b args xs locals other e fine
      (count_numbered program m arities agree args k before))
      (from_own (sites_of o) k (from_plain k (from_plain k (parts k before)))))

  abbrev SpawnIsSited : Syntaxes → List FunName → Type 0
  SpawnIsSited args locals =
      (k : ℕ) (c : Counts)
      → (let xs = spawn_numbered atoms m args (all_numbered atoms m args) k c in
      Numbered k c xs.1 (resolve_spawn called_names here xs.0 locals))

  spawn_sited : (args : Syntaxes) (locals : List FunName) (a b : ℕ)
      → named program m a b (arguments args) ≡ Some Spawns → SpawnIsSited args locals
      → IsSited (Some Spawns) a b locals
      (spawn_numbered atoms m args (all_numbered atoms m args))
  spawn_sited args locals a b e spawned k c =
      let before = behind_names (Some Spawns) k c in
      let xs = (spawn_numbered atoms m args (all_numbered atoms m args) k before).0 in
      let end = (spawn_numbered atoms m args (all_numbered atoms m args) k before).1 in
      subst
      (λ o. Numbered k c end
      (named_call called_names here (numeral a) (numeral b) (arguments xs) o
      (all_resolved xs locals) (resolve_spawn called_names here xs locals)))
      (sym (same_named (Some Spawns) a b args xs
      (count_spawned program m arities agree args k before) e))
      (from_own (sites_of (Some Spawns)) k (from_plain k (from_plain k (spawned k before))))

  call_sited : (o : Option Operation) (a b : ℕ) (args : Syntaxes) (locals : List FunName)
      → named program m a b (arguments args) ≡ o → CallIsFine program m o a b args
      → AreSited args locals → (SpawnIsFine program m args → SpawnIsSited args locals)
      → IsSited o a b locals (args_of program m arities agree o args)
  call_sited (Some Spawns) a b args locals e fine parts spawned =
      spawn_sited args locals a b e (spawned fine)
  call_sited None a b args locals e fine parts spawned =
      other_sited None a b args locals (λ is. cc) e fine parts
  call_sited (Some (Plain f)) a b args locals e fine parts spawned =
      other_sited (Some (Plain f)) a b args locals (λ is. cc) e fine parts
  call_sited (Some SetsElement) a b args locals e fine parts spawned =
      other_sited (Some SetsElement) a b args locals (λ is. cc) e fine parts
  call_sited (Some Sends) a b args locals e fine parts spawned =
      other_sited (Some Sends) a b args locals (λ is. cc) e fine parts
  call_sited (Some Displays) a b args locals e fine parts spawned =
      other_sited (Some Displays) a b args locals (λ is. cc) e fine parts
  call_sited (Some (RaisesAs class)) a b args locals e fine parts spawned =
      other_sited (Some (RaisesAs class)) a b args locals (λ is. cc) e fine parts

  primop_call : (a n : ℕ) (xs : Syntaxes) (locals : List FunName) → arguments xs ≡ n
      → is_match_fail (text_of m.atoms a) n ≡ true
      → IsCall [] (all_resolved xs locals)
      (resolve called_names here (s.Primop (numeral a) xs) locals)
  primop_call a n xs locals is h =
      let es = all_resolved xs locals in
      let two = and_parts (bytes_eq (text_of m.atoms a) (codes "match_fail")) (n == 1) h in
      let holds : is_match_fail (text_of atoms (numeral a)) (arguments xs) ≡ true =
      λ i. agree.texts a _ _ two.0 i && (ap (λ n. n == 1) is ∙ two.1) i in
      subst (λ b. IsCall [] es (if b then r.Call r.MatchFail es else r.Refused)) (sym holds)
      (plain_call r.MatchFail es (λ k. refl))

  timeout_plain : (t : Syntax) → TimeoutIsFine program m t → (k : ℕ) {c d : Counts} {l : ℕ}
      {os : ℕ → List ℕ} → Numbers c d l os → Numbers c (numbered atoms m t k d).1 l os
  timeout_plain (s.Int n) h k before = then_plain k before
  timeout_plain (s.Atom a) h k before = then_plain k before
  timeout_plain _ h k before = absurd h

  abbrev Sited : Syntax → List FunName → Type 0
  Sited x locals =
      (k : ℕ) (c : Counts) → Numbered k c (numbered atoms m x k c).1
      (resolve called_names here (numbered atoms m x k c).0 (map renaming locals))

  -- the end of a list notation
  tail_sited : (x : Syntax) (locals : List FunName) (k : ℕ) (c : Counts)
      → Numbered k c (numbered atoms m x k c).1
      (resolve called_names here (numbered atoms m x k c).0 locals)
      → (let tail = tail_numbered x (numbered atoms m x) k c in
      Numbered k c tail.1 (resolve called_names here tail.0 locals))
  tail_sited x locals k c h = by (is_nil x)
    where
      by : (b : Bool)
          → (let tail = (if b then made s.Nil else numbered atoms m x) k c in
          Numbered k c tail.1 (resolve called_names here tail.0 locals))
      by true = nothing c
      by false = h

  mutual
    pub sited : (x : Syntax) (scope : Scope) (locals : List FunName) (needs : ℕ)
        → IsFine program m scope locals needs x → Sited x locals
    sited (s.Int n) scope locals needs h k c = alone k c
    sited (s.Atom a) scope locals needs h k c = alone k c
    sited s.Nil scope locals needs h k c = alone k c
    sited (s.Var x) scope locals needs h k c = alone k c
    sited (s.Str text) scope locals needs h k c = own_alone (kind.String ∷ []) k c
    sited (s.Tuple _ parts) scope locals needs h k c =
        from_own (kind.Tuple ∷ []) k
        (all_sited parts scope locals h.1 k (behind_node (kind.Tuple ∷ []) k c))
    sited (s.ListOf _ heads tail) scope locals needs h k c =
        let own = replicate (arguments heads) kind.Cons in
        let before = behind_node own k c in
        let middle = (all_numbered atoms m heads k before).1 in
        let xs = (all_numbered atoms m heads k before).0 in
        let around = map renaming locals in
        let es = all_resolved xs around in
        let many : expression_count es ≡ arguments heads =
        count_resolved program m arities agree xs around
        ∙ count_numbered program m arities agree heads k before in
        let e = resolve called_names here
        (tail_numbered tail (numbered atoms m tail) k middle).0 around in
        told_as refl
        (λ n. ap (λ ks. ks ++ (all_owners k n es ++ owners k (n + count_all es) e))
        (by_heads k (arguments heads) ∙ ap (λ n. replicate n k) (sym many)))
        (from_own own k
        (both (all_sited heads scope locals h.1 k before)
        (tail_sited tail around k middle (sited tail scope locals 1 h.2 k middle))))
    sited (s.Values parts) scope locals needs h k c =
        from_plain k (all_sited parts scope locals h.1 k (behind_node [] k c))
    sited (s.Let xs value body) scope locals needs h k c =
        let start = behind_node [] k c in
        let middle = (numbered atoms m value k start).1 in
        from_plain k
        (both (sited value scope locals (length xs) h.0 k start)
        (sited body (with_variables scope xs) locals needs h.1 k middle))
    sited (s.Do first second) scope locals needs h k c =
        let start = behind_node [] k c in
        let middle = (numbered atoms m first k start).1 in
        from_plain k
        (both (sited first scope locals 1 h.0 k start)
        (sited second scope locals needs h.1 k middle))
    sited (s.Case value clauses) scope locals needs h k c =
        let start = behind_node [] k c in
        let middle = (numbered atoms m value k start).1 in
        from_plain k
        (both (sited value scope locals (width_of clauses) h.0 k start)
        (clauses_sited clauses scope locals (width_of clauses) needs h.1 k middle))
    sited (s.Letrec functions body) scope locals needs h k c =
        let start = behind_node [] k c in
        let middle = (definitions_numbered atoms m functions k start).1 in
        let fs = (definitions_numbered atoms m functions k start).0 in
        let end = (numbered atoms m body k middle).1 in
        let x = (numbered atoms m body k middle).0 in
        let within = defined_names functions ++ locals in
        subst
        (λ around. Numbered k c end
        (r.Letrec (resolve_definitions called_names here fs around)
        (resolve called_names here x around)))
        (inside_is program m arities agree functions locals k start)
        (from_plain k
        (both (functions_sited functions scope within h.0 k start)
        (sited body scope within needs h.1 k middle)))
    sited (s.Apply (s.Name f) args) scope locals needs h k c =
        let start = behind_node [] k (behind_node [] k c) in
        let xs = (all_numbered atoms m args k start).0 in
        let es = all_resolved xs (map renaming locals) in
        of_call [] k (applied_call locals f es h.1)
        (from_plain k (from_plain k (all_sited args scope locals h.3 k start)))
    sited (s.Call (s.Atom a) (s.Atom b) args) scope locals needs h k c =
        call_sited (named program m a b (arguments args)) a b args (map renaming locals) refl h.1
        (λ k c. all_sited args scope locals h.2 k c)
        (λ fine k c. spawned_sited args scope locals h.2 fine k c) k c
    sited (s.Primop a args) scope locals needs h k c =
        let start = behind_node [] k c in
        let xs = (all_numbered atoms m args k start).0 in
        of_call [] k
        (primop_call a (arguments args) xs (map renaming locals)
        (count_numbered program m arities agree args k start) h.0)
        (from_plain k (all_sited args scope locals h.1 k start))
    sited (s.Receive clauses timeout body) scope locals needs h k c =
        let start = behind_node [] k c in
        let middle = (clauses_numbered atoms m clauses k start).1 in
        let after = (numbered atoms m timeout k middle).1 in
        let end = (numbered atoms m body k after).1 in
        let around = map renaming locals in
        let cs = resolve_clauses called_names here
        (clauses_numbered atoms m clauses k start).0 around in
        let e = resolve called_names here (numbered atoms m body k after).0 around in
        timeout_is program m arities agree timeout h.1 k middle cs e (λ e. Numbered k c end e)
        (λ t. from_plain k
        (both (timeout_plain timeout h.1 k (clauses_sited clauses scope locals 1 needs h.0 k start))
        (sited body scope locals needs h.2 k after)))
    sited _ scope locals needs h k c = absurd h

    all_sited : (xs : Syntaxes) (scope : Scope) (locals : List FunName)
        → AreFine program m scope locals xs → AreSited xs (map renaming locals)
    all_sited NoSyntax scope locals h k c = nothing c
    all_sited (MoreSyntax x xs) scope locals h k c =
        both (sited x scope locals 1 h.0 k c)
        (all_sited xs scope locals h.1 k (numbered atoms m x k c).1)

    spawned_sited : (xs : Syntaxes) (scope : Scope) (locals : List FunName)
        → AreFine program m scope locals xs → SpawnIsFine program m xs
        → SpawnIsSited xs (map renaming locals)
    spawned_sited (MoreSyntax (s.Atom a) (MoreSyntax (s.Atom b) (MoreSyntax s.Nil NoSyntax)))
        scope locals h fine k c =
        of_call [] k
        (spawn_call (function_called called_names here (numeral a) (numeral b) 0) 0
        r.NoExpressions (agree.called a b 0 fine))
        (then_plain k (then_plain k (alone k c)))
    spawned_sited
        (MoreSyntax (s.Atom a)
        (MoreSyntax (s.Atom b) (MoreSyntax (s.ListOf _ heads s.Nil) NoSyntax)))
        scope locals h fine k c =
        let start = behind_node [] k (behind_node [] k (behind_node [] k c)) in
        let xs = (all_numbered atoms m heads k start).0 in
        let es = all_resolved xs (map renaming locals) in
        let found : Found arities
        (function_called called_names here (numeral a) (numeral b) (arguments xs)) (arguments xs) =
        subst
        (λ n. Found arities (function_called called_names here (numeral a) (numeral b) n) n)
        (sym (count_numbered program m arities agree heads k start))
        (agree.called a b (arguments heads) fine) in
        of_call [] k
        (spawn_call (function_called called_names here (numeral a) (numeral b) (arguments xs))
        (arguments xs) es found)
        (from_plain k (from_plain k
        (from_plain k (all_sited heads scope locals h.1.1.0.1 k start))))
    spawned_sited _ scope locals h fine k c = absurd fine

    -- the guard of a clause
    guard_sited : (guard : Syntax) (scope : Scope) (locals : List FunName)
        → GuardIsFine program m scope locals guard (Sited guard locals) → (k : ℕ) (c : Counts)
        → (let x = (numbered atoms m guard k c).0 in
        Numbered k c (numbered atoms m guard k c).1
        (resolve_guard called_names here x (resolve called_names here x (map renaming locals))
        (map renaming locals)))
    guard_sited (s.Try value vars (s.Var x) catch_vars (s.Atom a)) scope locals h k c =
        let start = behind_node [] k c in
        let y = (numbered atoms m value k start).0 in
        let after = (numbered atoms m value k start).1 in
        let end = behind_node [] k (behind_node [] k after) in
        subst
        (λ b. Numbered k c end
        (if b then resolve called_names here y (map renaming locals) else r.Refused))
        (sym (both_hold program m arities agree _ _ _ h.0.0 h.0.1 (agree.texts a _ _ h.0.2)))
        (then_plain k
        (then_plain k (from_plain k (sited value scope locals 1 h.2 k start))))
    guard_sited (s.Int n) scope locals h k c = h.1 k c
    guard_sited (s.Atom a) scope locals h k c = h.1 k c
    guard_sited s.Nil scope locals h k c = h.1 k c
    guard_sited (s.Var x) scope locals h k c = h.1 k c
    guard_sited (s.Let xs value body) scope locals h k c = h.1 k c
    guard_sited (s.Call x y args) scope locals h k c = h.1 k c
    guard_sited _ scope locals h k c = absurd h.0

    clauses_sited : (cs : s.Clauses) (scope : Scope) (locals : List FunName) (values needs : ℕ)
        → ClausesAreFine program m scope locals values needs cs → (k : ℕ) (c : Counts)
        → (let ds = clauses_numbered atoms m cs k c in
        let es = resolve_clauses called_names here ds.0 (map renaming locals) in
        Numbers c ds.1 (count_clauses es) (λ n. clauses_owners k n es))
    clauses_sited s.NoClauses scope locals values needs h k c = nothing c
    clauses_sited (s.MoreClauses ps guard body cs) scope locals values needs h k c =
        let inside = with_patterns scope ps in
        let start : Counts =
        record c { node = c.node + length (patterns_in (pattern_trees ps)) } in
        let middle = (numbered atoms m guard k start).1 in
        let after = (numbered atoms m body k middle).1 in
        let guarded = guard_sited guard inside locals
        (guard_map program m arities agree guard inside locals _ _
        (λ f k c. sited guard inside locals 1 f k c) h.1) k start in
        let others = both (sited body inside locals needs h.2 k middle)
        (clauses_sited cs scope locals values needs h.3 k after) in
        let all = both guarded others in
        record { locals = all.locals; sites = all.sites }

    functions_sited : (fs : s.Definitions) (scope : Scope) (locals : List FunName)
        → FunctionsAreFine program m scope locals fs → (k : ℕ) (c : Counts)
        → (let ds = definitions_numbered atoms m fs k c in
        let gs = resolve_definitions called_names here ds.0 (map renaming locals) in
        Numbers c ds.1 (count_functions gs) (λ n. functions_owners n gs))
    functions_sited s.NoDefinitions scope locals h k c = nothing c
    functions_sited (s.MoreDefinitions f xs body fs) scope locals h k c =
        let start : Counts = record c { local = suc c.local } in
        let middle = (numbered atoms m body c.local start).1 in
        function_and_others (renaming f) xs _ _
        (sited body (with_variables scope xs) locals 1 h.1 c.local start)
        (functions_sited fs scope locals h.2 k middle)
