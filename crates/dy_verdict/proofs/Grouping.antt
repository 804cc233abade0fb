-- The groups of files, one file after the other.
use Rattle.std.proofs.Common.{◌≡◌, List, [], ◌∷◌, ◌++◌, map, Ok, Err, refl, sym, ap, subst, ◌∙◌, inl, inr, append_assoc}
use Rattle.std.specs.Prelude.{flat_map}
use Rattle.std.specs.Global.{Vec}
use Rattle.std.proofs.lemmas.List.{map-append, append-nil}
use Rattle.dy_base.specs.declared.fault.Fault.{Fault}
use Rattle.dy_base.specs.declared.fault.Refusal.{Refusal}
use Rattle.dy_base.specs.declared.fault.Refusal.TheVariants as refusals
use Rattle.dy_tree.specs.declared.fragment.Fragment.{Fragment}
use Rattle.dy_tree.specs.declared.token.Token.{Token}
use Rattle.dy_tree.specs.declared.words.Words.{Words}
use Rattle.dy_tree.specs.Fragments.{SeenFragment, seen_fragments}
use Rattle.dy_fragment.specs.Faults.{Refused}
use Rattle.dy_fragment.specs.Answers.{IsGrouping}
use Rattle.dy_verdict.specs.declared.pieces.Piece.{Piece as Held}
use Rattle.dy_verdict.specs.Pieces.{Piece, seen_piece, pieces_of}
use Rattle.dy_verdict.specs.Trees.{IsGrouped, AreGrouped, GivesTrees, seen_file}

pub grouped_more : (words : Words) (files : List (List Token)) (done : List (List SeenFragment)) (tokens : List Token) (trees : List SeenFragment) → AreGrouped words files (Ok done) → IsGrouped words tokens trees
    → AreGrouped words (files ++ tokens ∷ []) (Ok (done ++ trees ∷ []))
grouped_more words [] done tokens trees none is = (trees, [], is, refl, ap (λ (all : List (List SeenFragment)). all ++ trees ∷ []) none)
grouped_more words (first ∷ files) done tokens trees (here, others, grouped, rest, all) is =
    (here, others ++ trees ∷ [], grouped, grouped_more words files others tokens trees rest is, ap (λ (all : List (List SeenFragment)). all ++ trees ∷ []) all)

pub grouped_faulty : (words : Words) (files : List (List Token)) (done : List (List SeenFragment)) (tokens : List Token) (more : List (List Token)) (fault : Fault) → AreGrouped words files (Ok done) → Refused 200 words tokens fault
    → AreGrouped words (files ++ tokens ∷ more) (Err fault)
grouped_faulty words [] done tokens more fault none is = inl is
grouped_faulty words (first ∷ files) done tokens more fault (here, others, grouped, rest, all) is = inr (here, grouped, grouped_faulty words files others tokens more fault rest is)

flat_behind : (some more : List (List SeenFragment)) → flat_map pieces_of (some ++ more) ≡ flat_map pieces_of some ++ flat_map pieces_of more
flat_behind [] more = refl
flat_behind (file ∷ some) more =
    ap (λ (rest : List Piece). pieces_of file ++ rest) (flat_behind some more) ∙ sym (append_assoc (pieces_of file) (flat_map pieces_of some) (flat_map pieces_of more))

-- the pieces of one more file
pub pieces_more : (yielded : List (Vec Fragment)) (file : Vec Fragment) (pieces more all : List Held) → map seen_piece pieces ≡ flat_map pieces_of (map seen_file yielded) → map seen_piece more ≡ pieces_of (seen_file file) → all ≡ pieces ++ more
    → map seen_piece all ≡ flat_map pieces_of (map seen_file (yielded ++ file ∷ []))
pieces_more yielded file pieces more all before here is =
    ap (map seen_piece) is ∙ map-append seen_piece pieces more
    ∙ (λ i. before i ++ here i)
    ∙ ap (λ (last : List Piece). flat_map pieces_of (map seen_file yielded) ++ last) (sym (append-nil (pieces_of (seen_file file))))
    ∙ sym (flat_behind (map seen_file yielded) (seen_file file ∷ []))
    ∙ sym (ap (flat_map pieces_of) (map-append seen_file yielded (file ∷ [])))

-- a file more that is grouped, as it is held
pub turn_more : (words : Words) (yielded : List (List Token)) (trees more : List (Vec Fragment)) (tokens : List Token) (fragments : List Fragment) (held : Vec Fragment) → AreGrouped words yielded (Ok (map seen_file trees))
    → IsGrouped words tokens (seen_fragments fragments) → held.items ≡ fragments → more ≡ trees ++ held ∷ [] → AreGrouped words (yielded ++ tokens ∷ []) (Ok (map seen_file more))
turn_more words yielded trees more tokens fragments held before is same added =
    subst (λ (all : List (List SeenFragment)). AreGrouped words (yielded ++ tokens ∷ []) (Ok all))
    (ap (λ (last : List Fragment). map seen_file trees ++ seen_fragments last ∷ []) (sym same) ∙ sym (map-append seen_file trees (held ∷ [])) ∙ ap (map seen_file) (sym added))
    (grouped_more words yielded (map seen_file trees) tokens (seen_fragments fragments) before is)

-- a file that has a fault, behind others that are grouped
pub turn_faulty : (words : Words) (all yielded more : List (List Token)) (done : List (List SeenFragment)) (tokens : List Token) (fault : Fault) → all ≡ yielded ++ tokens ∷ more → AreGrouped words yielded (Ok done) → Refused 200 words tokens fault
    → AreGrouped words all (Err fault)
turn_faulty words all yielded more done tokens fault whole before is =
    subst (λ (files : List (List Token)). AreGrouped words files (Err fault)) (sym whole) (grouped_faulty words yielded done tokens more fault before is)

-- by what a call refuses
pub turn_refused : (words : Words) (all yielded more : List (List Token)) (done : List (List SeenFragment)) (tokens : List Token) (refusal : Refusal) → all ≡ yielded ++ tokens ∷ more → AreGrouped words yielded (Ok done)
    → IsGrouping words tokens (Err refusal) → GivesTrees words all (Err refusal)
turn_refused words all yielded more done tokens (refusals.Fault fault) whole before is = turn_faulty words all yielded more done tokens fault whole before is
turn_refused words all yielded more done tokens refusals.Memory whole before is = tt
