-- The sites that are numbered are those of the resolved trees, with their kinds and in their order.
use Rattle.std.proofs.Common.{◌≡◌, ◌==◌, ◌&&◌, if◌then◌else◌, ℕ, suc, ◌+◌, true, false, true≢false, Bool, List, [], ◌∷◌, ◌++◌, length, map, replicate, codes, Option, Some, None, refl, sym, ap, ◌∙◌, subst}
use Rattle.std.proofs.lemmas.Bool.{and_parts}
use Rattle.std.proofs.lemmas.List.{append-nil, append_assoc, map-append}
use Rattle.std.specs.List.{Contains}
use Rattle.std.specs.Str.{bytes_eq}
use Rattle.hy_terms.specs.Naming.{text_of}
use Rattle.hy_core.specs.BuiltIn.{Operation, Plain, SetsElement, Sends, Spawns, Displays, RaisesAs, operation_named}
use Rattle.hy_core.specs.Counting.{Counts, Numbering, next, at_node, made}
use Rattle.hy_core.specs.Numbered.{all_numbered, clauses_numbered, definitions_numbered, is_nil, numbered, sites_of, spawn_numbered, tail_numbered}
use Rattle.hy_core.specs.Resolve.{Names, applied_head, call_of, defined_names, function_called, function_head, function_number, is_local, is_match_fail, named_call, resolve, resolve_all, resolve_clauses, resolve_definitions, resolve_guard, resolve_spawn, spawn_head}
use Rattle.hy_core.specs.Resolved as r
use Rattle.hy_core.specs.Resolved.{Expression, Expressions}
use Rattle.hy_core.specs.Scopes.{Scope, with_patterns, with_variables}
use Rattle.hy_core.specs.SubPatterns.{patterns_in}
use Rattle.hy_core.specs.Supplied.{expression_count}
use Rattle.hy_core.specs.Syntax as s
use Rattle.hy_core.specs.Syntax.{Syntax, Syntaxes, NoSyntax, MoreSyntax, count, pattern_trees}
use Rattle.hy_core.specs.declared.info.SiteInfo.{SiteInfo}
use Rattle.hy_core.specs.declared.info.SiteKind.{SiteKind}
use Rattle.hy_core.specs.declared.info.SiteKind.TheVariants as kind
use Rattle.hy_core.specs.declared.tree.FunName.{FunName}
use Rattle.hy_core.specs.declared.tree.Module.{Module}
use Rattle.hy_core.specs.declared.tree.Program.{Program}
use Rattle.core_accepted.proofs.FineTrees.{AreFine, CallIsFine, ClausesAreFine, FunctionsAreFine, GuardIsFine, IsFine, MayCall, MayApply, SpawnIsFine, TimeoutIsFine, named, width_of}
use Rattle.core_accepted.proofs.ResolvedKnown.{Found, NamesAgree, args_of, both_hold, count_numbered, count_resolved, count_spawned, current, guard_map, inside_is, name, names, not_spawned, number, table, timeout_is}
use Rattle.core_accepted.proofs.SuppliedSites.{kinds, all_kinds, clauses_kinds, functions_kinds}

-- the kinds of the sites that are counted
abbrev pub counted : Counts → List SiteKind
counted c = map (λ (site : SiteInfo). site.kind) c.sites

-- one part's sites, and behind them another one's
pub both : (c d e : Counts) (ks js : List SiteKind) → counted d ≡ counted c ++ ks → counted e ≡ counted d ++ js → counted e ≡ counted c ++ (ks ++ js)
both c d e ks js p q = q ∙ ap (λ before. before ++ js) p ∙ append_assoc (counted c) ks js

-- a node's own sites
abbrev behind_node : List SiteKind → ℕ → Counts → Counts
behind_node own k c = (at_node own made k c).1

own_kinds : (own : List SiteKind) (k node : ℕ) → map (λ (site : SiteInfo). site.kind) (map (λ (j : SiteKind). record { function = k; node = node; kind = j }) own) ≡ own
own_kinds [] k node = refl
own_kinds (j ∷ own) k node = ap (λ js. j ∷ js) (own_kinds own k node)

at_own : (own : List SiteKind) (k : ℕ) (c : Counts) → counted (behind_node own k c) ≡ counted c ++ own
at_own own k c =
    map-append (λ (site : SiteInfo). site.kind) c.sites (map (λ (j : SiteKind). record { function = k; node = c.node; kind = j }) own)
    ∙ ap (λ ks. counted c ++ ks) (own_kinds own k c.node)

at_plain : (k : ℕ) (c : Counts) → counted (behind_node [] k c) ≡ counted c
at_plain k c = at_own [] k c ∙ append-nil (counted c)

from_plain : (k : ℕ) (c d : Counts) (ks : List SiteKind) → counted d ≡ counted (behind_node [] k c) ++ ks → counted d ≡ counted c ++ ks
from_plain k c d ks h = h ∙ ap (λ before. before ++ ks) (at_plain k c)

then_plain : (k : ℕ) (c d : Counts) (ks : List SiteKind) → counted d ≡ counted c ++ ks → counted (behind_node [] k d) ≡ counted c ++ ks
then_plain k c d ks h = at_plain k d ∙ h

module _ (program : Program) (m : Module) (arities : List ℕ) (agree : NamesAgree program m arities) where
  abbrev atoms : List (List ℕ)
  atoms = table program m arities

  abbrev called_names : Names
  called_names = names program m arities

  abbrev here : ℕ
  here = current program m arities

  abbrev numeral : ℕ → ℕ
  numeral = number program m arities

  abbrev renaming : FunName → FunName
  renaming = name program m arities

  -- calls

  function_kinds : (found : Option ℕ) (n : ℕ) (es : Expressions) → Found arities found n → kinds (call_of (function_head found) es) ≡ all_kinds es
  function_kinds (Some k) n es h = refl
  function_kinds None n es h = absurd h

  spawn_kinds : (found : Option ℕ) (n : ℕ) (es : Expressions) → Found arities found n → kinds (call_of (spawn_head found) es) ≡ all_kinds es
  spawn_kinds (Some k) n es h = refl
  spawn_kinds None n es h = absurd h

  applied_kinds : (locals : List FunName) (f : FunName) (es : Expressions) → MayApply program m locals f
      → kinds (call_of (applied_head called_names here (renaming f) (map renaming locals)) es) ≡ all_kinds es
  applied_kinds locals f es may = by (is_local (renaming f) (map renaming locals)) refl
    where
      by : (b : Bool) → is_local (renaming f) (map renaming locals) ≡ b
          → kinds (call_of (if b then Some (r.Local (renaming f)) else function_head (function_number called_names.functions here (renaming f))) es) ≡ all_kinds es
      by true e = refl
      by false e =
          let outside : Contains locals f → ⊥ = λ h. true≢false (sym (agree.around f locals h) ∙ e) in
          function_kinds (function_number called_names.functions here (renaming f)) f.arity es (agree.applied f (may outside))

  named_kinds : (o : Option Operation) (a b n : ℕ) (es : Expressions) (spawned : Expression) → (o ≡ Some Spawns → ⊥) → (o ≡ None → MayCall program m a b n)
      → kinds (named_call called_names here (numeral a) (numeral b) n o es spawned) ≡ sites_of o ++ all_kinds es
  named_kinds None a b n es spawned other may = function_kinds (function_called called_names here (numeral a) (numeral b) n) n es (agree.called a b n (may refl))
  named_kinds (Some (Plain f)) a b n es spawned other may = refl
  named_kinds (Some SetsElement) a b n es spawned other may = refl
  named_kinds (Some Sends) a b n es spawned other may = refl
  named_kinds (Some Spawns) a b n es spawned other may = absurd (other refl)
  named_kinds (Some Displays) a b n es spawned other may = refl
  named_kinds (Some (RaisesAs class)) a b n es spawned other may = refl

  -- the program's names tell the same operation
  same_named : (o : Option Operation) (a b n : ℕ) (args xs : Syntaxes) → count xs ≡ count args → named program m a b (count args) ≡ o
      → operation_named (text_of atoms (numeral a)) (text_of atoms (numeral b)) (count xs) ≡ o
  same_named o a b n args xs is e = ap (λ n. operation_named (text_of atoms (numeral a)) (text_of atoms (numeral b)) n) is ∙ agree.operations a b (count args) ∙ e

  may_of : (o : Option Operation) (a b : ℕ) (args : Syntaxes) → CallIsFine program m o a b args → o ≡ None → MayCall program m a b (count args)
  may_of None a b args h e = h
  may_of (Some o) a b args h e = absurd cc

  other_kinds : (o : Option Operation) (a b : ℕ) (args xs : Syntaxes) (locals : List FunName) → (o ≡ Some Spawns → ⊥) → named program m a b (count args) ≡ o → CallIsFine program m o a b args → count xs ≡ count args
      → kinds (resolve called_names here (s.Call (s.Atom (numeral a)) (s.Atom (numeral b)) xs) locals) ≡ sites_of o ++ all_kinds (resolve_all called_names here xs locals)
  other_kinds o a b args xs locals other e fine is =
      let es = resolve_all called_names here xs locals in
      let spawned = resolve_spawn called_names here xs locals in
      ap (λ o. kinds (named_call called_names here (numeral a) (numeral b) (count xs) o es spawned)) (same_named o a b 0 args xs is e)
      ∙ named_kinds o a b (count xs) es spawned other (λ none. subst (MayCall program m a b) (sym is) (may_of o a b args fine none))

  -- a call, by what it names and by the numbering of its arguments
  abbrev called_as : Option Operation → (a b : ℕ) → Numbering Syntaxes → Numbering Syntax
  called_as o a b numbering =
      at_node (sites_of o) λ _. next (numbered atoms m (s.Atom a)) λ x. next (numbered atoms m (s.Atom b)) λ y. next numbering λ xs. made (s.Call x y xs)

  abbrev IsSited : Option Operation → (a b : ℕ) → List FunName → Numbering Syntaxes → Type 0
  IsSited o a b locals numbering =
      (k : ℕ) (c : Counts) → counted (called_as o a b numbering k c).1 ≡ counted c ++ kinds (resolve called_names here (called_as o a b numbering k c).0 locals)

  abbrev behind_names : Option Operation → ℕ → Counts → Counts
  behind_names o k c = behind_node [] k (behind_node [] k (behind_node (sites_of o) k c))

  at_names : (o : Option Operation) (k : ℕ) (c : Counts) → counted (behind_names o k c) ≡ counted c ++ sites_of o
  at_names o k c = then_plain k c (behind_node [] k (behind_node (sites_of o) k c)) (sites_of o) (then_plain k c (behind_node (sites_of o) k c) (sites_of o) (at_own (sites_of o) k c))

  abbrev AreSited : Syntaxes → List FunName → Type 0
  AreSited xs locals = (k : ℕ) (c : Counts) → counted (all_numbered atoms m xs k c).1 ≡ counted c ++ all_kinds (resolve_all called_names here (all_numbered atoms m xs k c).0 locals)

  other_sited : (o : Option Operation) (a b : ℕ) (args : Syntaxes) (locals : List FunName) → (o ≡ Some Spawns → ⊥) → named program m a b (count args) ≡ o → CallIsFine program m o a b args → AreSited args locals
      → IsSited o a b locals (args_of program m arities agree o args)
  other_sited o a b args locals other e fine parts =
      subst (IsSited o a b locals) (sym (not_spawned program m arities agree o args other)) (λ k c.
      let before = behind_names o k c in
      let xs = (all_numbered atoms m args k before).0 in
      both c before (all_numbered atoms m args k before).1 (sites_of o) (all_kinds (resolve_all called_names here xs locals)) (at_names o k c) (parts k before)
      ∙ ap (λ ks. counted c ++ ks) (sym (other_kinds o a b args xs locals other e fine (count_numbered program m arities agree args k before))))

  spawn_sited : (args : Syntaxes) (locals : List FunName) (a b : ℕ) → named program m a b (count args) ≡ Some Spawns
      → ((k : ℕ) (c : Counts) → counted (spawn_numbered atoms m args (all_numbered atoms m args) k c).1 ≡ counted c ++ kinds (resolve_spawn called_names here (spawn_numbered atoms m args (all_numbered atoms m args) k c).0 locals))
      → IsSited (Some Spawns) a b locals (spawn_numbered atoms m args (all_numbered atoms m args))
  spawn_sited args locals a b e spawned k c =
      let before = behind_names (Some Spawns) k c in
      let xs = (spawn_numbered atoms m args (all_numbered atoms m args) k before).0 in
      spawned k before ∙ ap (λ ks. ks ++ kinds (resolve_spawn called_names here xs locals)) (at_names (Some Spawns) k c ∙ append-nil (counted c))
      ∙ ap (λ o. counted c ++ kinds (named_call called_names here (numeral a) (numeral b) (count xs) o (resolve_all called_names here xs locals) (resolve_spawn called_names here xs locals)))
      (sym (same_named (Some Spawns) a b 0 args xs (count_spawned program m arities agree args k before) e))

  call_sited : (o : Option Operation) (a b : ℕ) (args : Syntaxes) (locals : List FunName) → named program m a b (count args) ≡ o → CallIsFine program m o a b args → AreSited args locals
      → (SpawnIsFine program m args → (k : ℕ) (c : Counts) → counted (spawn_numbered atoms m args (all_numbered atoms m args) k c).1 ≡ counted c ++ kinds (resolve_spawn called_names here (spawn_numbered atoms m args (all_numbered atoms m args) k c).0 locals))
      → IsSited o a b locals (args_of program m arities agree o args)
  call_sited (Some Spawns) a b args locals e fine parts spawned = spawn_sited args locals a b e (spawned fine)
  call_sited None a b args locals e fine parts spawned = other_sited None a b args locals (λ is. cc) e fine parts
  call_sited (Some (Plain f)) a b args locals e fine parts spawned = other_sited (Some (Plain f)) a b args locals (λ is. cc) e fine parts
  call_sited (Some SetsElement) a b args locals e fine parts spawned = other_sited (Some SetsElement) a b args locals (λ is. cc) e fine parts
  call_sited (Some Sends) a b args locals e fine parts spawned = other_sited (Some Sends) a b args locals (λ is. cc) e fine parts
  call_sited (Some Displays) a b args locals e fine parts spawned = other_sited (Some Displays) a b args locals (λ is. cc) e fine parts
  call_sited (Some (RaisesAs class)) a b args locals e fine parts spawned = other_sited (Some (RaisesAs class)) a b args locals (λ is. cc) e fine parts

  primop_kinds : (a n : ℕ) (xs : Syntaxes) (locals : List FunName) → count xs ≡ n → is_match_fail (text_of m.atoms a) n ≡ true
      → kinds (resolve called_names here (s.Primop (numeral a) xs) locals) ≡ all_kinds (resolve_all called_names here xs locals)
  primop_kinds a n xs locals is h =
      let two = and_parts (bytes_eq (text_of m.atoms a) (codes "match_fail")) (n == 1) h in
      let holds : is_match_fail (text_of atoms (numeral a)) (count xs) ≡ true = λ i. agree.texts a _ _ two.0 i && (ap (λ n. n == 1) is ∙ two.1) i in
      ap (λ b. kinds (if b then r.Call r.MatchFail (resolve_all called_names here xs locals) else r.Refused)) holds

  timeout_plain : (t : Syntax) → TimeoutIsFine program m t → (k : ℕ) (c : Counts) → counted (numbered atoms m t k c).1 ≡ counted c
  timeout_plain (s.Int n) h k c = at_plain k c
  timeout_plain (s.Atom a) h k c = at_plain k c
  timeout_plain _ h k c = absurd h

  -- the end of a list notation
  tail_sited : (x : Syntax) (locals : List FunName) (k : ℕ) (c : Counts)
      → counted (numbered atoms m x k c).1 ≡ counted c ++ kinds (resolve called_names here (numbered atoms m x k c).0 locals)
      → counted (tail_numbered x (numbered atoms m x) k c).1 ≡ counted c ++ kinds (resolve called_names here (tail_numbered x (numbered atoms m x) k c).0 locals)
  tail_sited x locals k c h = by (is_nil x)
    where
      by : (b : Bool) → counted ((if b then made s.Nil else numbered atoms m x) k c).1 ≡ counted c ++ kinds (resolve called_names here ((if b then made s.Nil else numbered atoms m x) k c).0 locals)
      by true = sym (append-nil (counted c))
      by false = h

  abbrev Sited : Syntax → List FunName → Type 0
  Sited x locals = (k : ℕ) (c : Counts) → counted (numbered atoms m x k c).1 ≡ counted c ++ kinds (resolve called_names here (numbered atoms m x k c).0 (map renaming locals))

  mutual
    pub sited : (x : Syntax) (scope : Scope) (locals : List FunName) (needs : ℕ) → IsFine program m scope locals needs x → Sited x locals
    sited (s.Int n) scope locals needs h k c = at_own [] k c
    sited (s.Atom a) scope locals needs h k c = at_own [] k c
    sited s.Nil scope locals needs h k c = at_own [] k c
    sited (s.Var x) scope locals needs h k c = at_own [] k c
    sited (s.Str text) scope locals needs h k c = at_own (kind.String ∷ []) k c
    sited (s.Tuple _ parts) scope locals needs h k c =
        let before = behind_node (kind.Tuple ∷ []) k c in
        both c before (all_numbered atoms m parts k before).1 (kind.Tuple ∷ []) _ (at_own (kind.Tuple ∷ []) k c) (all_sited parts scope locals h.1 k before)
    sited (s.ListOf _ heads tail) scope locals needs h k c =
        let own = replicate (count heads) kind.Cons in
        let before = behind_node own k c in
        let middle = (all_numbered atoms m heads k before).1 in
        let xs = (all_numbered atoms m heads k before).0 in
        let es = resolve_all called_names here xs (map renaming locals) in
        let many : own ≡ replicate (expression_count es) kind.Cons = ap (λ n. replicate n kind.Cons) (sym (count_resolved program m arities agree xs (map renaming locals) ∙ count_numbered program m arities agree heads k before)) in
        both c middle (tail_numbered tail (numbered atoms m tail) k middle).1 (own ++ all_kinds es) _ (both c before middle own (all_kinds es) (at_own own k c) (all_sited heads scope locals h.1 k before))
        (tail_sited tail (map renaming locals) k middle (sited tail scope locals 1 h.2 k middle))
        ∙ ap (λ ks. counted c ++ ((ks ++ all_kinds es) ++ kinds (resolve called_names here (tail_numbered tail (numbered atoms m tail) k middle).0 (map renaming locals)))) many
    sited (s.Values parts) scope locals needs h k c =
        let start = behind_node [] k c in
        from_plain k c (all_numbered atoms m parts k start).1 _ (all_sited parts scope locals h.1 k start)
    sited (s.Let xs value body) scope locals needs h k c =
        let start = behind_node [] k c in
        let middle = (numbered atoms m value k start).1 in
        from_plain k c (numbered atoms m body k middle).1 _ (both start middle (numbered atoms m body k middle).1 _ _ (sited value scope locals (length xs) h.0 k start) (sited body (with_variables scope xs) locals needs h.1 k middle))
    sited (s.Do first second) scope locals needs h k c =
        let start = behind_node [] k c in
        let middle = (numbered atoms m first k start).1 in
        from_plain k c (numbered atoms m second k middle).1 _ (both start middle (numbered atoms m second k middle).1 _ _ (sited first scope locals 1 h.0 k start) (sited second scope locals needs h.1 k middle))
    sited (s.Case value clauses) scope locals needs h k c =
        let start = behind_node [] k c in
        let middle = (numbered atoms m value k start).1 in
        from_plain k c (clauses_numbered atoms m clauses k middle).1 _ (both start middle (clauses_numbered atoms m clauses k middle).1 _ _ (sited value scope locals (width_of clauses) h.0 k start) (clauses_sited clauses scope locals (width_of clauses) needs h.1 k middle))
    sited (s.Letrec functions body) scope locals needs h k c =
        let start = behind_node [] k c in
        let middle = (definitions_numbered atoms m functions k start).1 in
        let fs = (definitions_numbered atoms m functions k start).0 in
        let end = (numbered atoms m body k middle).1 in
        let x = (numbered atoms m body k middle).0 in
        let within = defined_names functions ++ locals in
        subst (λ around. counted end ≡ counted c ++ (functions_kinds (resolve_definitions called_names here fs around) ++ kinds (resolve called_names here x around))) (inside_is program m arities agree functions locals k start)
        (from_plain k c end _ (both start middle end _ _ (functions_sited functions scope within h.0 k start) (sited body scope within needs h.1 k middle)))
    sited (s.Apply (s.Name f) args) scope locals needs h k c =
        let start = behind_node [] k (behind_node [] k c) in
        let xs = (all_numbered atoms m args k start).0 in
        let end = (all_numbered atoms m args k start).1 in
        let es = resolve_all called_names here xs (map renaming locals) in
        from_plain k c end (all_kinds es) (from_plain k (behind_node [] k c) end (all_kinds es) (all_sited args scope locals h.3 k start))
        ∙ ap (λ ks. counted c ++ ks) (sym (applied_kinds locals f es h.1))
    sited (s.Call (s.Atom a) (s.Atom b) args) scope locals needs h k c =
        call_sited (named program m a b (count args)) a b args (map renaming locals) refl h.1 (λ k c. all_sited args scope locals h.2 k c) (λ fine k c. spawned_sited args scope locals h.2 fine k c) k c
    sited (s.Primop a args) scope locals needs h k c =
        let start = behind_node [] k c in
        let xs = (all_numbered atoms m args k start).0 in
        from_plain k c (all_numbered atoms m args k start).1 _ (all_sited args scope locals h.1 k start)
        ∙ ap (λ ks. counted c ++ ks) (sym (primop_kinds a (count args) xs (map renaming locals) (count_numbered program m arities agree args k start) h.0))
    sited (s.Receive clauses timeout body) scope locals needs h k c =
        let start = behind_node [] k c in
        let middle = (clauses_numbered atoms m clauses k start).1 in
        let after = (numbered atoms m timeout k middle).1 in
        let end = (numbered atoms m body k after).1 in
        let cs = resolve_clauses called_names here (clauses_numbered atoms m clauses k start).0 (map renaming locals) in
        let e = resolve called_names here (numbered atoms m body k after).0 (map renaming locals) in
        timeout_is program m arities agree timeout h.1 k middle cs e (λ e. counted end ≡ counted c ++ kinds e)
        (λ t. from_plain k c end (clauses_kinds cs ++ kinds e) (both start after end (clauses_kinds cs) (kinds e) (timeout_plain timeout h.1 k middle ∙ clauses_sited clauses scope locals 1 needs h.0 k start) (sited body scope locals needs h.2 k after)))
    sited _ scope locals needs h k c = absurd h

    all_sited : (xs : Syntaxes) (scope : Scope) (locals : List FunName) → AreFine program m scope locals xs → AreSited xs (map renaming locals)
    all_sited NoSyntax scope locals h k c = sym (append-nil (counted c))
    all_sited (MoreSyntax x xs) scope locals h k c =
        let middle = (numbered atoms m x k c).1 in
        both c middle (all_numbered atoms m xs k middle).1 _ _ (sited x scope locals 1 h.0 k c) (all_sited xs scope locals h.1 k middle)

    spawned_sited : (xs : Syntaxes) (scope : Scope) (locals : List FunName) → AreFine program m scope locals xs → SpawnIsFine program m xs → (k : ℕ) (c : Counts)
        → counted (spawn_numbered atoms m xs (all_numbered atoms m xs) k c).1 ≡ counted c ++ kinds (resolve_spawn called_names here (spawn_numbered atoms m xs (all_numbered atoms m xs) k c).0 (map renaming locals))
    spawned_sited (MoreSyntax (s.Atom a) (MoreSyntax (s.Atom b) (MoreSyntax s.Nil NoSyntax))) scope locals h fine k c =
        let end = behind_node [] k (behind_node [] k (behind_node [] k c)) in
        then_plain k c (behind_node [] k (behind_node [] k c)) [] (then_plain k c (behind_node [] k c) [] (at_own [] k c))
        ∙ ap (λ ks. counted c ++ ks) (sym (spawn_kinds (function_called called_names here (numeral a) (numeral b) 0) 0 _ (agree.called a b 0 fine)))
    spawned_sited (MoreSyntax (s.Atom a) (MoreSyntax (s.Atom b) (MoreSyntax (s.ListOf _ heads s.Nil) NoSyntax))) scope locals h fine k c =
        let start = behind_node [] k (behind_node [] k (behind_node [] k c)) in
        let xs = (all_numbered atoms m heads k start).0 in
        let end = (all_numbered atoms m heads k start).1 in
        let es = resolve_all called_names here xs (map renaming locals) in
        let found : Found arities (function_called called_names here (numeral a) (numeral b) (count xs)) (count xs)
        = subst (λ n. Found arities (function_called called_names here (numeral a) (numeral b) n) n) (sym (count_numbered program m arities agree heads k start)) (agree.called a b (count heads) fine) in
        from_plain k c end (all_kinds es) (from_plain k (behind_node [] k c) end (all_kinds es) (from_plain k (behind_node [] k (behind_node [] k c)) end (all_kinds es) (all_sited heads scope locals h.1.1.0.1 k start)))
        ∙ ap (λ ks. counted c ++ ks) (sym (spawn_kinds (function_called called_names here (numeral a) (numeral b) (count xs)) (count xs) es found))
    spawned_sited _ scope locals h fine k c = absurd fine

    -- the guard of a clause
    guard_sited : (guard : Syntax) (scope : Scope) (locals : List FunName) → GuardIsFine program m scope locals guard (Sited guard locals) → (k : ℕ) (c : Counts)
        → (let x = (numbered atoms m guard k c).0 in counted (numbered atoms m guard k c).1 ≡ counted c ++ kinds (resolve_guard called_names here x (resolve called_names here x (map renaming locals)) (map renaming locals)))
    guard_sited (s.Try value vars (s.Var x) catch_vars (s.Atom a)) scope locals h k c =
        let start = behind_node [] k c in
        let y = (numbered atoms m value k start).0 in
        let after = (numbered atoms m value k start).1 in
        let end = behind_node [] k (behind_node [] k after) in
        subst (λ b. counted end ≡ counted c ++ kinds (if b then resolve called_names here y (map renaming locals) else r.Refused))
        (sym (both_hold program m arities agree _ _ _ h.0.0 h.0.1 (agree.texts a _ _ h.0.2)))
        (then_plain k c (behind_node [] k after) _ (then_plain k c after _ (from_plain k c after _ (sited value scope locals 1 h.2 k start))))
    guard_sited (s.Int n) scope locals h k c = h.1 k c
    guard_sited (s.Atom a) scope locals h k c = h.1 k c
    guard_sited s.Nil scope locals h k c = h.1 k c
    guard_sited (s.Var x) scope locals h k c = h.1 k c
    guard_sited (s.Let xs value body) scope locals h k c = h.1 k c
    guard_sited (s.Call x y args) scope locals h k c = h.1 k c
    guard_sited _ scope locals h k c = absurd h.0

    clauses_sited : (cs : s.Clauses) (scope : Scope) (locals : List FunName) (values needs : ℕ) → ClausesAreFine program m scope locals values needs cs → (k : ℕ) (c : Counts)
        → counted (clauses_numbered atoms m cs k c).1 ≡ counted c ++ clauses_kinds (resolve_clauses called_names here (clauses_numbered atoms m cs k c).0 (map renaming locals))
    clauses_sited s.NoClauses scope locals values needs h k c = sym (append-nil (counted c))
    clauses_sited (s.MoreClauses ps guard body cs) scope locals values needs h k c =
        let inside = with_patterns scope ps in
        let start : Counts = record c { node = c.node + length (patterns_in (pattern_trees ps)) } in
        let middle = (numbered atoms m guard k start).1 in
        let after = (numbered atoms m body k middle).1 in
        let end = (clauses_numbered atoms m cs k after).1 in
        both c after end _ _
        (both c middle after _ _ (guard_sited guard inside locals (guard_map program m arities agree guard inside locals _ _ (λ f k c. sited guard inside locals 1 f k c) h.1) k start) (sited body inside locals needs h.2 k middle))
        (clauses_sited cs scope locals values needs h.3 k after)

    functions_sited : (fs : s.Definitions) (scope : Scope) (locals : List FunName) → FunctionsAreFine program m scope locals fs → (k : ℕ) (c : Counts)
        → counted (definitions_numbered atoms m fs k c).1 ≡ counted c ++ functions_kinds (resolve_definitions called_names here (definitions_numbered atoms m fs k c).0 (map renaming locals))
    functions_sited s.NoDefinitions scope locals h k c = sym (append-nil (counted c))
    functions_sited (s.MoreDefinitions f xs body fs) scope locals h k c =
        let middle = (numbered atoms m body c.local (record c { local = suc c.local })).1 in
        both c middle (definitions_numbered atoms m fs k middle).1 _ _ (sited body (with_variables scope xs) locals 1 h.1 c.local (record c { local = suc c.local }))
        (functions_sited fs scope locals h.2 k middle)
