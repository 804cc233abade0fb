use Rattle.std.proofs.Common.{◌≡◌, ℕ, get_or, None, IfOk, subst, ◌∙◌}
use Rattle.dy_base.specs.declared.exports.Exports.{Exports}
use Rattle.dy_views.proofs.Standing.{exports_read}
use Rattle.dy_views.proofs.view.exports_by.Goals as goal

pub returns : goal.returns
returns c =
    subst (λ (wanted : Exports). IfOk c.link_exports.result (λ exports. exports ≡ wanted))
    (exports_read c.args.compiled.now (λ (library : ℕ). get_or c.args.places.now library None) c.args.library c.requires.compiled c.requires.there
    c.as_slice.result.now c.index-as_slice-library.result c.as_slice-order.result.now c.as_slice-2.result.now c.as_slice-3.result.now c.index-as_slice-library-2.result
    c.as_slice.ensures c.index-as_slice-library.is c.as_slice-order.ensures (c.as_slice-2.ensures ∙ c.in_ok-places.ensures) c.as_slice-3.ensures c.index-as_slice-library-2.is)
    c.link_exports.ensures
