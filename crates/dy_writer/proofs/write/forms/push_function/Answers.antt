use Rattle.std.proofs.Common.{◌≡◌, List, [], ◌∷◌, ◌++◌, map, codes, sym, ap, ◌∙◌, append_assoc}
use Rattle.dy_tree.specs.Fragments.{SeenFragment, one, seen_fragments}
use Rattle.dy_rules.specs.Marks.{word_mark, semicolon_mark}
use Rattle.dy_rules.specs.Trees.{body_of}
use Rattle.dy_rules.specs.Writing.{written_signature, written_body}
use Rattle.dy_rules.specs.SeenForms.{seen_item, seen_parameters}
use Rattle.dy_writer.proofs.write.forms.push_function.Goals as goal

-- what stands behind the head of a definition
behind_head : (none head whole adjectives rest : List SeenFragment) (word name : SeenFragment) → none ≡ [] → head ≡ none ++ (adjectives ++ word ∷ name ∷ []) → whole ≡ head ++ rest → whole ≡ adjectives ++ word ∷ name ∷ rest
behind_head none head whole adjectives rest word name e f g =
    g ∙ ap (λ (fs : List SeenFragment). fs ++ rest) (f ∙ ap (λ (fs : List SeenFragment). fs ++ (adjectives ++ word ∷ name ∷ [])) e) ∙ append_assoc adjectives (word ∷ name ∷ []) rest

pub returns : goal.returns
returns c =
    let code = written_signature (seen_parameters c.args.parameters.now) ++ semicolon_mark ∷ written_body (body_of (map seen_item c.args.body.now.items)) in
    let inner : seen_fragments c.push_code.new.out.items ≡ map one c.args.adjectives.now.items ++ word_mark (codes "function") ∷ one c.args.name.now ∷ code =
    behind_head (seen_fragments c.new-inner.result.items) (seen_fragments c.push_head.new.out.items) (seen_fragments c.push_code.new.out.items) (map one c.args.adjectives.now.items) code (word_mark (codes "function")) (one c.args.name.now)
    (ap seen_fragments c.new-inner.ensures.items) c.in_ok-push_head.ensures c.in_ok-push_code.ensures in
    rw (sym inner) c.push_definition.ensures
