-- What a name means, by places in the list of locals.
use Rattle.std.specs.Prelude.{◌≡◌, true, false, [], ◌∷◌, ◌++◌, Some}
use Rattle.dy_tree.specs.declared.token.Token.{Token}
use Rattle.dy_term.specs.declared.draft.Local.{Local}
use Rattle.dy_term.specs.declared.draft.Local.TheVariants.{Named}
use Rattle.dy_names.specs.declared.denotation.Denotation.{Denotation}
use Rattle.dy_names.specs.Naming.{is_same, Locals, Table, innermost, means}

-- none of the locals has this name
abbrev pub AreOthers : Locals → Local → Type 0
AreOthers [] name = Unit {0}
AreOthers (l ∷ outer) name = (is_same l.0 name ≡ false) × AreOthers outer name

-- a local of this name stands for it, and none further inside has the name
abbrev pub IsInnermost : Locals → Local → Denotation → Type 0
IsInnermost locals name denotation =
    (inner : Locals) × (l : Local) × (outer : Locals) × (locals ≡ inner ++ (l, denotation) ∷ outer)
    × (is_same l name ≡ true) × AreOthers inner name

-- A name means the same when a local that it is not, before and after, gets another name or origin.
abbrev pub StaysWhereOthersAreRenamed : Table → Type 0
StaysWhereOthersAreRenamed table =
    (inner outer : Locals) (before after : Local) (name : Token) (denotation : Denotation)
    → is_same before (Named name) ≡ false → is_same after (Named name) ≡ false
    → means table (inner ++ (before, denotation) ∷ outer) name
    ≡ means table (inner ++ (after, denotation) ∷ outer) name

-- A name never means a local of another origin, or of another text.
abbrev pub KeepsOrigin : Type 0
KeepsOrigin =
    (locals : Locals) (name : Token) (denotation : Denotation)
    → innermost locals (Named name) ≡ Some denotation
    → (inner : Locals) × (l : Token) × (outer : Locals)
    × (locals ≡ inner ++ (Named l, denotation) ∷ outer)
    × (l.origin ≡ name.origin) × (l.text ≡ name.text)
