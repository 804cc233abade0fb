-- The number and the name of each kind of refusal (own).
use Rattle.std.specs.Prelude.{ℕ, List, codes}
use Rattle.dy_base.specs.declared.kind.Kind.{Kind}
use Rattle.dy_base.specs.declared.kind.Kind.TheVariants.{BadByte, OpenComment, OpenString}
use Rattle.dy_base.specs.declared.kind.Kind.TheVariants.{BadLiteral, WideInteger, BadHeader}
use Rattle.dy_base.specs.declared.kind.Kind.TheVariants.{Unbalanced, TooDeep, NoRule}
use Rattle.dy_base.specs.declared.kind.Kind.TheVariants.{TooManyExpansions, BadMacro}
use Rattle.dy_base.specs.declared.kind.Kind.TheVariants.{UnknownLibrary, UnknownModule, NameClash}
use Rattle.dy_base.specs.declared.kind.Kind.TheVariants.{NotExported, Cycle, Syntax, Unbound}
use Rattle.dy_base.specs.declared.kind.Kind.TheVariants.{Redefined, NotAssignable, NotAType}
use Rattle.dy_base.specs.declared.kind.Kind.TheVariants.{Inconsistent, TwoPrimaries, SlotClash}
use Rattle.dy_base.specs.declared.kind.Kind.TheVariants.{CyclicClass, NotCongruent, DuplicateMethod}
use Rattle.dy_base.specs.declared.kind.Kind.TheVariants.{SealedClass, SealedGeneric, SealedDomain}
use Rattle.dy_base.specs.declared.kind.Kind.TheVariants.{Limit, BadImage, BadCode, Stale, NoFile}

abbrev pub code_of : Kind → ℕ
code_of BadByte = 1
code_of OpenComment = 2
code_of OpenString = 3
code_of BadLiteral = 4
code_of WideInteger = 5
code_of BadHeader = 6
code_of Unbalanced = 7
code_of TooDeep = 8
code_of NoRule = 9
code_of TooManyExpansions = 10
code_of BadMacro = 11
code_of UnknownLibrary = 12
code_of UnknownModule = 13
code_of NameClash = 14
code_of NotExported = 15
code_of Cycle = 16
code_of Syntax = 17
code_of Unbound = 18
code_of Redefined = 19
code_of NotAssignable = 20
code_of NotAType = 21
code_of Inconsistent = 22
code_of TwoPrimaries = 23
code_of SlotClash = 24
code_of CyclicClass = 25
code_of NotCongruent = 26
code_of DuplicateMethod = 27
code_of SealedClass = 28
code_of SealedGeneric = 29
code_of SealedDomain = 30
code_of Limit = 31
code_of BadImage = 32
code_of BadCode = 33
code_of Stale = 34
code_of NoFile = 35

abbrev pub name_of : Kind → List ℕ
name_of BadByte = codes "BadByte"
name_of OpenComment = codes "OpenComment"
name_of OpenString = codes "OpenString"
name_of BadLiteral = codes "BadLiteral"
name_of WideInteger = codes "WideInteger"
name_of BadHeader = codes "BadHeader"
name_of Unbalanced = codes "Unbalanced"
name_of TooDeep = codes "TooDeep"
name_of NoRule = codes "NoRule"
name_of TooManyExpansions = codes "TooManyExpansions"
name_of BadMacro = codes "BadMacro"
name_of UnknownLibrary = codes "UnknownLibrary"
name_of UnknownModule = codes "UnknownModule"
name_of NameClash = codes "NameClash"
name_of NotExported = codes "NotExported"
name_of Cycle = codes "Cycle"
name_of Syntax = codes "Syntax"
name_of Unbound = codes "Unbound"
name_of Redefined = codes "Redefined"
name_of NotAssignable = codes "NotAssignable"
name_of NotAType = codes "NotAType"
name_of Inconsistent = codes "Inconsistent"
name_of TwoPrimaries = codes "TwoPrimaries"
name_of SlotClash = codes "SlotClash"
name_of CyclicClass = codes "CyclicClass"
name_of NotCongruent = codes "NotCongruent"
name_of DuplicateMethod = codes "DuplicateMethod"
name_of SealedClass = codes "SealedClass"
name_of SealedGeneric = codes "SealedGeneric"
name_of SealedDomain = codes "SealedDomain"
name_of Limit = codes "Limit"
name_of BadImage = codes "BadImage"
name_of BadCode = codes "BadCode"
name_of Stale = codes "Stale"
name_of NoFile = codes "NoFile"
