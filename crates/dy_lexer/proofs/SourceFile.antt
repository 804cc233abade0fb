-- What is read of a source file.
use Rattle.std.proofs.Common.{◌≡◌, ℕ, ◌⊎◌, inl, inr, false, List, [], length, Result, Ok, Err, refl, sym, ap, subst, ◌∙◌, arith}
use Rattle.dy_base.specs.declared.fault.Fault.{Fault}
use Rattle.dy_base.specs.declared.fault.Refusal.{Refusal}
use Rattle.dy_base.specs.declared.fault.Refusal.TheVariants as refusals
use Rattle.dy_tree.specs.declared.token.Token.{Token}
use Rattle.dy_lexer.specs.declared.source.Source.{Source}
use Rattle.dy_lexer.specs.Tokens.{Tokens, Gives, tokens_of, joined, joined_after}
use Rattle.dy_lexer.specs.Cut.{Judged}
use Rattle.dy_lexer.specs.Headers.{Opened, opened}
use Rattle.dy_lexer.specs.Sources.{wanted, header_of, header_fault, source, with_module, source_after, source_of, IsSource, IsAfter, IsFirst, IsReading, Reads, Refuses}
use Rattle.dy_lexer.specs.declared.header.Head.{Head}
use Rattle.dy_lexer.proofs.HeaderLines.{header_is, some_header}
use Rattle.dy_lexer.proofs.Whole.{judged, complete, complete_fault}

abbrev Sourced : Type 0
Sourced = Result Source Fault

abbrev FromOk : Result (List ℕ) ℕ → Tokens → Source → Type 0
FromOk w t s = (name : List ℕ) × (pieces : List Token) × (w ≡ Ok name) × (t ≡ Ok pieces) × (s ≡ source name (joined pieces))

ok_source : (a b : Source) (r : Sourced) → r ≡ Ok a → r ≡ Ok b → a ≡ b
ok_source a b r e f = cc

err_source : (a b : Fault) (r : Sourced) → r ≡ Err a → r ≡ Err b → a ≡ b
err_source a b r e f = cc

from_ok : (file : ℕ) (w : Result (List ℕ) ℕ) (t : Tokens) (s : Source) → with_module file w (joined_after [] t) ≡ Ok s → FromOk w t s
from_ok file (Err at) t s e = absurd cc
from_ok file (Ok name) (Ok pieces) s e = (name, pieces, refl, refl, ok_source s (source name (joined pieces)) (Ok (source name (joined pieces))) e refl)
from_ok file (Ok name) (Err f) s e = absurd cc

abbrev FromErr : ℕ → Result (List ℕ) ℕ → Tokens → Fault → Type 0
FromErr file w t f = ((at : ℕ) × (w ≡ Err at) × (f ≡ header_fault file at)) ⊎ ((name : List ℕ) × (w ≡ Ok name) × (t ≡ Err f))

abbrev refused : Fault → Tokens
refused f = Err f

from_err : (file : ℕ) (w : Result (List ℕ) ℕ) (t : Tokens) (f : Fault) → with_module file w (joined_after [] t) ≡ Err f → FromErr file w t f
from_err file (Err at) t f e = inl (at, refl, err_source f (header_fault file at) (Err (header_fault file at)) e refl)
from_err file (Ok name) (Ok pieces) f e = absurd cc
from_err file (Ok name) (Err g) f e = inr (name, refl, ap refused (err_source g f (Err g) refl e))

pub reading : (file : ℕ) (text : List ℕ) (r : Result Source Refusal) → Gives (λ s. s) r (source_of file text) → IsReading file text r
reading file text (Ok s) e =
    let o = header_of false text in
    let (name, pieces, header, read, is) = from_ok file (wanted o.head.name o.head.fault) (tokens_of (length o.body) file o.at o.body) s e in
    let judge = judged (length o.body) file o.at o.body (omega arith) in
    record {
      head = o.head;
      at = o.at;
      body = o.body;
      pieces = pieces;
      header = some_header false text;
      name = header ∙ ap (λ (x : Source). Ok x.«module») (sym is);
      cut = subst (Judged file o.at o.body) read judge;
      tokens = ap (λ (x : Source). x.tokens) is;
    }
reading file text (Err (refusals.Fault f)) e =
    let o = header_of false text in
    record {
      head = o.head;
      at = o.at;
      body = o.body;
      header = some_header false text;
      first = go (header_of false text) (from_err file (wanted o.head.name o.head.fault) (tokens_of (length o.body) file o.at o.body) f e);
    }
  where
    go : (o : Opened) → FromErr file (wanted o.head.name o.head.fault) (tokens_of (length o.body) file o.at o.body) f → IsAfter file o.head o.at o.body f
    go o (inl h) = inl h
    go o (inr h) = let (name, header, read) = h in inr (name, header, subst (Judged file o.at o.body) read (judged (length o.body) file o.at o.body (omega arith)))
reading file text (Err refusals.Memory) e = tt

sourced : (file : ℕ) (w : Result (List ℕ) ℕ) (t : Tokens) (s : Source) (pieces : List Token) → w ≡ Ok s.«module» → t ≡ Ok pieces → s.tokens ≡ joined pieces
    → with_module file w (joined_after [] t) ≡ Ok s
sourced file w t s pieces e f g = rw (e, f) (ap (λ (x : List Token). Ok (source s.«module» x)) (sym g))

pub source_is : (file : ℕ) (text : List ℕ) (s : Source) → IsSource file text s → source_of file text ≡ Ok s
source_is file text s h =
    let same = header_is false text h.head h.at h.body h.header in
    let read = complete file (length h.body) h.at h.body h.pieces (omega arith) h.cut in
    ap (source_after file) same ∙ sourced file (wanted h.head.name h.head.fault) (tokens_of (length h.body) file h.at h.body) s h.pieces h.name read h.tokens

after_is : (file : ℕ) (head : Head) (at : ℕ) (body : List ℕ) (f : Fault) → IsAfter file head at body f → source_after file (opened head at body) ≡ Err f
after_is file head at body f (inl h) = let (line, header, is) = h in rw (header, is) refl
after_is file head at body f (inr h) =
    let (name, header, broken) = h in
    let read = complete_fault file (length body) at body f (omega arith) broken in
    rw (header, read) refl

pub first_is : (file : ℕ) (text : List ℕ) (f : Fault) → IsFirst file text f → source_of file text ≡ Err f
first_is file text f h = ap (source_after file) (header_is false text h.head h.at h.body h.header) ∙ after_is file h.head h.at h.body f h.first

pub reads : (file : ℕ) (text : List ℕ) (r : Result Source Refusal) (s : Source) → Gives (λ x. x) r (source_of file text) → IsSource file text s → Reads r s
reads file text (Ok x) s e h = ok_source x s (source_of file text) e (source_is file text s h)
reads file text (Err (refusals.Fault f)) s e h = absurd (apart (source_of file text) (source_is file text s h) e)
  where
    apart : (r : Sourced) → r ≡ Ok s → r ≡ Err f → ⊥
    apart r d e = absurd cc
reads file text (Err refusals.Memory) s e h = tt

pub refuses : (file : ℕ) (text : List ℕ) (r : Result Source Refusal) (g : Fault) → Gives (λ x. x) r (source_of file text) → IsFirst file text g → Refuses r g
refuses file text (Ok x) g e h = absurd (apart (source_of file text) e (first_is file text g h))
  where
    apart : (r : Sourced) → r ≡ Ok x → r ≡ Err g → ⊥
    apart r d e = absurd cc
refuses file text (Err (refusals.Fault f)) g e h = err_source f g (source_of file text) e (first_is file text g h)
refuses file text (Err refusals.Memory) g e h = tt
