-- How the parts of a program get their numbers one after another: nodes, functions of letrecs and
-- sites. This project's own.
use Rattle.std.specs.Prelude.{ℕ, suc, ◌+◌, List, ◌++◌, map, length}
use Rattle.hy_core.specs.declared.info.SiteInfo.{SiteInfo}
use Rattle.hy_core.specs.declared.info.SiteKind.{SiteKind}

-- what has been numbered so far: the next node of the function of a module, the number of the next
-- function of a letrec, and the sites
pub record Counts : Type 0 where
  pub node : ℕ
  pub local : ℕ
  pub sites : List SiteInfo

-- a part with its numbers, made in the function of this number, after what is counted
abbrev pub Numbering : Type 0 → Type 0
Numbering A = (function : ℕ) → Counts → A × Counts

abbrev pub made : {A : Type 0} → A → Numbering A
made a function counts = (a, counts)

-- one part, and behind it what follows
abbrev pub next : {A B : Type 0} → Numbering A → (A → Numbering B) → Numbering B
next part more function counts = more (part function counts).0 function (part function counts).1

-- at a node of its own with these sites, from the first of them on
abbrev pub at_node : {A : Type 0} → List SiteKind → (ℕ → Numbering A) → Numbering A
at_node kinds more function counts =
    more (length counts.sites) function (record {
      node = suc counts.node;
      local = counts.local;
      sites = counts.sites
          ++ map (λ k. record { function = function; node = counts.node; kind = k }) kinds;
    })

-- behind so many nodes
abbrev pub behind : {A : Type 0} → ℕ → Numbering A → Numbering A
behind n more function counts = more function (record counts { node = counts.node + n })

-- in the next function of a letrec
abbrev pub in_definition : {A : Type 0} → Numbering A → Numbering A
in_definition more function counts = more counts.local (record counts { local = suc counts.local })
