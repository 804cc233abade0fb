-- What is read of a LID file.
use Rattle.std.proofs.Common.{◌≡◌, ℕ, true, List, Result, Ok, Err, refl, ap, ◌∙◌}
use Rattle.dy_base.specs.declared.fault.Fault.{Fault}
use Rattle.dy_base.specs.declared.fault.Refusal.{Refusal}
use Rattle.dy_base.specs.declared.fault.Refusal.TheVariants as refusals
use Rattle.dy_lexer.specs.declared.source.Lid.{Lid}
use Rattle.dy_lexer.specs.Tokens.{Gives}
use Rattle.dy_lexer.specs.Headers.{Opened}
use Rattle.dy_lexer.specs.Sources.{header_of, header_fault, lid_from, placed, lid_of, IsLid, IsLidFault, IsLidReading, Reads, Refuses}
use Rattle.dy_lexer.proofs.HeaderLines.{header_is, some_header}

abbrev Placed : Type 0
Placed = Result Lid Fault

ok_lid : (a b : Lid) (r : Placed) → r ≡ Ok a → r ≡ Ok b → a ≡ b
ok_lid a b r e f = cc

err_lid : (a b : Fault) (r : Placed) → r ≡ Err a → r ≡ Err b → a ≡ b
err_lid a b r e f = cc

apart : (a : Lid) (b : Fault) (r : Placed) → r ≡ Ok a → r ≡ Err b → ⊥
apart a b r e f = absurd cc

abbrev found : Lid → Result Lid ℕ
found l = Ok l

placed_ok : (r : Result Lid ℕ) (l : Lid) → placed 0 r ≡ Ok l → r ≡ Ok l
placed_ok (Ok x) l e = ap found (ok_lid x l (Ok x) refl e)
placed_ok (Err at) l e = absurd cc

placed_err : (r : Result Lid ℕ) (f : Fault) → placed 0 r ≡ Err f → (line : ℕ) × (r ≡ Err line) × (f ≡ header_fault 0 line)
placed_err (Ok x) f e = absurd cc
placed_err (Err at) f e = (at, refl, err_lid f (header_fault 0 at) (Err (header_fault 0 at)) e refl)

pub lid_reading : (text : List ℕ) (r : Result Lid Refusal) → Gives (λ l. l) r (lid_of text) → IsLidReading text r
lid_reading text (Ok l) e =
    let o = header_of true text in
    record { head = o.head; at = o.at; body = o.body; header = some_header true text; values = placed_ok (lid_from o.head.name o.head.files o.head.fault) l e }
lid_reading text (Err (refusals.Fault f)) e =
    let o = header_of true text in
    let (line, values, fault) = placed_err (lid_from o.head.name o.head.files o.head.fault) f e in
    record { head = o.head; at = o.at; body = o.body; line = line; header = some_header true text; values = values; fault = fault }
lid_reading text (Err refusals.Memory) e = tt

abbrev lid_after : Opened → Placed
lid_after o = placed 0 (lid_from o.head.name o.head.files o.head.fault)

pub lid_is : (text : List ℕ) (l : Lid) → IsLid text l → lid_of text ≡ Ok l
lid_is text l h = ap lid_after (header_is true text h.head h.at h.body h.header) ∙ rw h.values refl

pub fault_is : (text : List ℕ) (f : Fault) → IsLidFault text f → lid_of text ≡ Err f
fault_is text f h = ap lid_after (header_is true text h.head h.at h.body h.header) ∙ rw (h.values, h.fault) refl

pub lid_reads : (text : List ℕ) (r : Result Lid Refusal) (l : Lid) → Gives (λ x. x) r (lid_of text) → IsLid text l → Reads r l
lid_reads text (Ok x) l e h = ok_lid x l (lid_of text) e (lid_is text l h)
lid_reads text (Err (refusals.Fault f)) l e h = apart l f (lid_of text) (lid_is text l h) e
lid_reads text (Err refusals.Memory) l e h = tt

pub lid_refuses : (text : List ℕ) (r : Result Lid Refusal) (g : Fault) → Gives (λ x. x) r (lid_of text) → IsLidFault text g → Refuses r g
lid_refuses text (Ok x) g e h = apart x g (lid_of text) e (fault_is text g h)
lid_refuses text (Err (refusals.Fault f)) g e h = err_lid f g (lid_of text) e (fault_is text g h)
lid_refuses text (Err refusals.Memory) g e h = tt
