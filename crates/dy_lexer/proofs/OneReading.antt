-- A file is read in one way: it has one header, and what it says or its first fault, of which there is one.
use Rattle.std.proofs.Common.{◌≡◌, ℕ, Bool, List, Result, Ok, Err, sym, ap, ◌∙◌}
use Rattle.dy_base.specs.declared.fault.Fault.{Fault}
use Rattle.dy_lexer.specs.declared.source.Source.{Source}
use Rattle.dy_lexer.specs.declared.source.Lid.{Lid}
use Rattle.dy_lexer.specs.declared.header.Head.{Head}
use Rattle.dy_lexer.specs.Headers.{Opened, opened, IsHeader}
use Rattle.dy_lexer.specs.Sources.{header_of, source_of, lid_of, IsSource, IsFirst, IsLid, IsLidFault}
use Rattle.dy_lexer.proofs.HeaderLines.{header_is}
use Rattle.dy_lexer.proofs.SourceFile.{source_is, first_is}
use Rattle.dy_lexer.proofs.LidFile.{lid_is, fault_is}

one_ok : {X : Type 0} (r : Result X Fault) (a b : X) → r ≡ Ok a → r ≡ Ok b → a ≡ b
one_ok r a b e f = cc

one_err : {X : Type 0} (r : Result X Fault) (a b : Fault) → r ≡ Err a → r ≡ Err b → a ≡ b
one_err r a b e f = cc

not_both : {X : Type 0} (r : Result X Fault) (a : X) (b : Fault) → r ≡ Ok a → r ≡ Err b → ⊥
not_both r a b e f = absurd cc

pub one_header : (lid : Bool) (text : List ℕ) (a b : Opened) → IsHeader lid text a.head a.at a.body → IsHeader lid text b.head b.at b.body → a ≡ b
one_header lid text a b h k = sym (header_is lid text a.head a.at a.body h) ∙ header_is lid text b.head b.at b.body k

pub one_source : (file : ℕ) (text : List ℕ) (a b : Source) → IsSource file text a → IsSource file text b → a ≡ b
one_source file text a b h k = one_ok (source_of file text) a b (source_is file text a h) (source_is file text b k)

pub one_first : (file : ℕ) (text : List ℕ) (f g : Fault) → IsFirst file text f → IsFirst file text g → f ≡ g
one_first file text f g h k = one_err (source_of file text) f g (first_is file text f h) (first_is file text g k)

pub source_or_fault : (file : ℕ) (text : List ℕ) (s : Source) (f : Fault) → IsSource file text s → IsFirst file text f → ⊥
source_or_fault file text s f h k = not_both (source_of file text) s f (source_is file text s h) (first_is file text f k)

pub one_lid : (text : List ℕ) (a b : Lid) → IsLid text a → IsLid text b → a ≡ b
one_lid text a b h k = one_ok (lid_of text) a b (lid_is text a h) (lid_is text b k)

pub one_lid_fault : (text : List ℕ) (f g : Fault) → IsLidFault text f → IsLidFault text g → f ≡ g
one_lid_fault text f g h k = one_err (lid_of text) f g (fault_is text f h) (fault_is text g k)

pub lid_or_fault : (text : List ℕ) (l : Lid) (f : Fault) → IsLid text l → IsLidFault text f → ⊥
lid_or_fault text l f h k = not_both (lid_of text) l f (lid_is text l h) (fault_is text f k)
