-- Code trees, as definitions compute with them: one form for each form of the declared trees, which
-- are sealed, so that nothing over them computes. This project's own intermediate form.
use Rattle.std.specs.Prelude.{ℕ, List}
use Rattle.hy_core.specs.declared.class.Class.{Class}
use Rattle.hy_core.specs.declared.info.FunInfo.{FunInfo}
use Rattle.hy_core.specs.declared.info.SiteInfo.{SiteInfo}
use Rattle.hy_ir.specs.declared.code.Guard.{Guard}
use Rattle.hy_ir.specs.declared.code.Op.{Op}
use Rattle.hy_ir.specs.declared.code.Test.{Test}

mutual
  pub data Tree : Type 0 where
    MakeTree : Parts → Last → Tree

  pub data Parts : Type 0 where
    NoParts : Parts
    MoreParts : Part → Parts → Parts

  pub data Part : Type 0 where
    Do : Op → Part
    Within : (outs : List ℕ) → (inner : Tree) → Part

  pub data Last : Type 0 where
    Give : (registers : List ℕ) → Last
    Tail : (function : ℕ) → (arguments : List ℕ) → Last
    Raise : Class → (reason : ℕ) → Last
    Fail : (reason : ℕ) → Last
    Choose : Arms → Last
    Receive : (message : ℕ) → Arms → Lapse → Last

  pub data Arms : Type 0 where
    NoArms : Arms
    MoreArms : List Test → Guard → (body : Tree) → Arms → Arms

  -- what a receive does at timeout 0; without it, it waits for ever
  pub data Lapse : Type 0 where
    NoLapse : Lapse
    LapseTo : Tree → Lapse

pub record Function : Type 0 where
  pub params : ℕ
  pub registers : ℕ
  pub body : Tree

pub record Code : Type 0 where
  pub functions : List Function
  pub sites : List SiteInfo
  pub names : List FunInfo
  pub atoms : List (List ℕ)
