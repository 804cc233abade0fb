use Rattle.std.proofs.Common.{◌≡◌, ◌<◌, max, map, refl, sym, ap, ◌∙◌, arith}
use Rattle.std.proofs.lemmas.Result.{IfOk-weaker}
use Rattle.dy_tree.specs.declared.token.Token.{Token}
use Rattle.dy_rules.specs.Types.{types_of}
use Rattle.dy_rules.specs.Depth.{types_depth, type_depth}
use Rattle.dy_rules.specs.SeenTypes.{seen_type}
use Rattle.dy_rules.specs.TypeReading.{union_of}
use Rattle.dy_rules_depth.specs.Capping.{capped_type, deep_type}
use Rattle.dy_read_types.specs.TypeCaps.{read_type, read_types}
use Rattle.dy_read_types.proofs.TypeCaps.{union_kept, union_made}
use Rattle.dy_rules_depth.proofs.DeepTrees.{deep_type_depth, type_beyond}
use Rattle.dy_read_types.proofs.types.union_within.Goals as goal

pub returns-in_ok-copy-clause-made : goal.returns-in_ok-copy-clause-made
returns-in_ok-copy-clause-made c =
    let made : seen_type c.union_type.result ≡ union_of c.args.word.now (map seen_type c.args.types.items) = c.union_type.ensures ∙ ap (λ (word : Token). union_of word (map seen_type c.args.types.items)) c.in_ok-copy.ensures in
    let inside : types_depth (types_of (read_types c.args.types.items)) < 200 = rw (sym c.requires) (omega arith) in
    union_made c.args.word.now c.args.types.items c.union_type.result made inside

pub returns-in_ok-copy-clause-depth : goal.returns-in_ok-copy-clause-depth
returns-in_ok-copy-clause-depth c =
    let made : seen_type c.union_type.result ≡ union_of c.args.word.now (map seen_type c.args.types.items) = c.union_type.ensures ∙ ap (λ (word : Token). union_of word (map seen_type c.args.types.items)) c.in_ok-copy.ensures in
    let inside : types_depth (types_of (read_types c.args.types.items)) < 200 = rw (sym c.requires) (omega arith) in
    let same = ap type_depth (union_kept c.args.word.now c.args.types.items c.union_type.result made inside) in
    let deep = c.deepen.ensures in
    let is = c.requires in
    omega arith

pub returns-else-inside-lt-DEPTH_LIMIT-clause-depth : goal.returns-else-inside-lt-DEPTH_LIMIT-clause-depth
returns-else-inside-lt-DEPTH_LIMIT-clause-depth c = IfOk-weaker c.absent_type.result (λ made. read_type made ≡ deep_type) (λ made. c.deepen-else-inside-lt-DEPTH_LIMIT.new.depth ≡ max c.args.depth.now (type_depth (read_type made))) (λ made e. rw (c.deepen-else-inside-lt-DEPTH_LIMIT.ensures, e, deep_type_depth) refl) c.absent_type.ensures

pub returns-else-inside-lt-DEPTH_LIMIT-clause-made : goal.returns-else-inside-lt-DEPTH_LIMIT-clause-made
returns-else-inside-lt-DEPTH_LIMIT-clause-made c =
    let deep : deep_type ≡ capped_type (union_of c.args.word.now (read_types c.args.types.items)) = sym (type_beyond (union_of c.args.word.now (read_types c.args.types.items)) (rw (sym c.requires) (omega arith))) in
    IfOk-weaker c.absent_type.result (λ made. read_type made ≡ deep_type) (λ made. read_type made ≡ capped_type (union_of c.args.word.now (read_types c.args.types.items))) (λ made e. e ∙ deep) c.absent_type.ensures
