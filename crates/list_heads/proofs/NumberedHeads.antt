-- Numbering leaves no list notation empty.
use Rattle.std.proofs.Common.{◌≡◌, ℕ, suc, ◌<◌, Bool, true, false, List, refl, ap, arith}
use Rattle.std.proofs.Common.{Option, Some, None, if◌then◌else◌}
use Rattle.hy_core.specs.BuiltIn.{Operation, Plain, SetsElement, Sends, Spawns, Displays, RaisesAs}
use Rattle.hy_core.specs.Counting.{Counts, made}
use Rattle.hy_core.specs.Numbered.{all_numbered, arguments, atom_of, called, clauses_numbered}
use Rattle.hy_core.specs.Numbered.{definitions_numbered, is_nil, list_numbered, numbered}
use Rattle.hy_core.specs.Numbered.{spawn_numbered, tail_numbered}
use Rattle.hy_core.specs.Syntax as s
use Rattle.hy_core.specs.Syntax.{Syntax, Syntaxes, NoSyntax, MoreSyntax, count}
use Rattle.hy_core.specs.declared.tree.Module.{Module}
use Rattle.list_heads.proofs.WrittenHeads.{AllHaveHeads, ClausesHaveHeads, DefinitionsHaveHeads}
use Rattle.list_heads.proofs.WrittenHeads.{HasHeads}

module _ (table : List (List ℕ)) (m : Module) where
  count_kept : (xs : Syntaxes) (k : ℕ) (c : Counts)
      → count (all_numbered table m xs k c).0 ≡ count xs
  count_kept NoSyntax k c = refl
  count_kept (MoreSyntax x xs) k c =
      ap (λ n. suc n) (count_kept xs k (numbered table m x k c).1)

  many_kept : (xs : Syntaxes) → 0 < count xs → (k : ℕ) (c : Counts)
      → 0 < count (all_numbered table m xs k c).0
  many_kept xs h k c = let same = count_kept xs k c in omega (arith, h, same)

  -- the end of a list notation
  tail_has : (x : Syntax) → ((k : ℕ) (c : Counts) → HasHeads (numbered table m x k c).0)
      → (k : ℕ) (c : Counts) → HasHeads (tail_numbered x (numbered table m x) k c).0
  tail_has x h k c = by (is_nil x)
    where
      by : (b : Bool) → HasHeads ((if b then made s.Nil else numbered table m x) k c).0
      by true = tt
      by false = h k c

  args_have : (o : Option Operation) (xs : Syntaxes)
      → ((k : ℕ) (c : Counts) → AllHaveHeads (all_numbered table m xs k c).0)
      → ((k : ℕ) (c : Counts)
      → AllHaveHeads (spawn_numbered table m xs (all_numbered table m xs) k c).0)
      → (k : ℕ) (c : Counts)
      → AllHaveHeads
      (arguments o (spawn_numbered table m xs (all_numbered table m xs)) (all_numbered table m xs)
      k c).0
  args_have (Some Spawns) xs all spawned k c = spawned k c
  args_have None xs all spawned k c = all k c
  args_have (Some (Plain f)) xs all spawned k c = all k c
  args_have (Some SetsElement) xs all spawned k c = all k c
  args_have (Some Sends) xs all spawned k c = all k c
  args_have (Some Displays) xs all spawned k c = all k c
  args_have (Some (RaisesAs class)) xs all spawned k c = all k c

  mutual
    pub numbered_has : (x : Syntax) → HasHeads x → (k : ℕ) (c : Counts)
        → HasHeads (numbered table m x k c).0
    numbered_has (s.Int n) h k c = tt
    numbered_has (s.Atom a) h k c = tt
    numbered_has s.Nil h k c = tt
    numbered_has (s.Str text) h k c = tt
    numbered_has (s.Var x) h k c = tt
    numbered_has (s.Name f) h k c = tt
    numbered_has (s.Tuple site parts) h k c = all_have parts h k _
    numbered_has (s.ListOf site heads tail) h k c = (
      many_kept heads h.0 k _,
      all_have heads h.1 k _,
      tail_has tail (λ k c. numbered_has tail h.2 k c) k _,
    )
    numbered_has (s.Values parts) h k c = all_have parts h k _
    numbered_has (s.Let xs value body) h k c =
        (numbered_has value h.0 k _, numbered_has body h.1 k _)
    numbered_has (s.Do first second) h k c =
        (numbered_has first h.0 k _, numbered_has second h.1 k _)
    numbered_has (s.Case value clauses) h k c =
        (numbered_has value h.0 k _, clauses_have clauses h.1 k _)
    numbered_has (s.Letrec functions body) h k c =
        (definitions_have functions h.0 k _, numbered_has body h.1 k _)
    numbered_has (s.Apply what args) h k c = (numbered_has what h.0 k _, all_have args h.1 k _)
    numbered_has (s.Call x y args) h k c = (
      numbered_has x h.0 k _,
      numbered_has y h.1 k _,
      args_have (called table m (atom_of x) (atom_of y) (count args)) args
          (λ k c. all_have args h.2 k c) (λ k c. spawn_has args h.2 k c) k _,
    )
    numbered_has (s.Primop name args) h k c = all_have args h k _
    numbered_has (s.Receive clauses timeout body) h k c = (
      clauses_have clauses h.0 k _,
      numbered_has timeout h.1 k _,
      numbered_has body h.2 k _,
    )
    numbered_has (s.Try value xs body ys caught) h k c = (
      numbered_has value h.0 k _,
      numbered_has body h.1 k _,
      numbered_has caught h.2 k _,
    )
    numbered_has (s.Catch body) h k c = numbered_has body h k _
    numbered_has (s.Fun xs body) h k c = numbered_has body h k _

    all_have : (xs : Syntaxes) → AllHaveHeads xs → (k : ℕ) (c : Counts)
        → AllHaveHeads (all_numbered table m xs k c).0
    all_have NoSyntax h k c = tt
    all_have (MoreSyntax x xs) h k c = (numbered_has x h.0 k c, all_have xs h.1 k _)

    spawn_has : (xs : Syntaxes) → AllHaveHeads xs → (k : ℕ) (c : Counts)
        → AllHaveHeads (spawn_numbered table m xs (all_numbered table m xs) k c).0
    spawn_has NoSyntax h k c = tt
    spawn_has (MoreSyntax x NoSyntax) h k c = (numbered_has x h.0 k c, tt)
    spawn_has (MoreSyntax x (MoreSyntax y NoSyntax)) h k c =
        (numbered_has x h.0 k c, (numbered_has y h.1.0 k _, tt))
    spawn_has (MoreSyntax x (MoreSyntax y (MoreSyntax l NoSyntax))) h k c = (
      numbered_has x h.0 k c,
      (
        numbered_has y h.1.0 k _,
        (notation_has l h.1.1.0 (λ k c. numbered_has l h.1.1.0 k c) k _, tt),
      ),
    )
    spawn_has (MoreSyntax x (MoreSyntax y (MoreSyntax l (MoreSyntax z zs)))) h k c = (
      numbered_has x h.0 k c,
      (
        numbered_has y h.1.0 k _,
        (
          numbered_has l h.1.1.0 k _,
          (numbered_has z h.1.1.1.0 k _, all_have zs h.1.1.1.1 k _),
        ),
      ),
    )

    -- the list of a spawn
    notation_has : (x : Syntax) → HasHeads x
        → ((k : ℕ) (c : Counts) → HasHeads (numbered table m x k c).0)
        → (k : ℕ) (c : Counts) → HasHeads (list_numbered table m x (numbered table m x) k c).0
    notation_has (s.ListOf site heads tail) h others k c = (
      many_kept heads h.0 k _,
      all_have heads h.1 k _,
      tail_has tail (λ k c. numbered_has tail h.2 k c) k _,
    )
    notation_has _ h others k c = others k c

    clauses_have : (cs : s.Clauses) → ClausesHaveHeads cs → (k : ℕ) (c : Counts)
        → ClausesHaveHeads (clauses_numbered table m cs k c).0
    clauses_have s.NoClauses h k c = tt
    clauses_have (s.MoreClauses ps guard body cs) h k c = (
      numbered_has guard h.0 k _,
      numbered_has body h.1 k _,
      clauses_have cs h.2 k _,
    )

    definitions_have : (fs : s.Definitions) → DefinitionsHaveHeads fs → (k : ℕ) (c : Counts)
        → DefinitionsHaveHeads (definitions_numbered table m fs k c).0
    definitions_have s.NoDefinitions h k c = tt
    definitions_have (s.MoreDefinitions f xs body fs) h k c =
        (numbered_has body h.0 c.local _, definitions_have fs h.1 k _)
