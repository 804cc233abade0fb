-- How a stack of open groups changes with each token, and what is left of it at the end.
use Rattle.std.specs.Prelude.{◌≡◌, ℕ, zero, suc, ◌+◌, nat_lt, if◌then◌else◌, List, [], ◌∷◌, ◌++◌}
use Rattle.std.specs.Prelude.{length, map, reverse, Result, Ok, Err, Option, Some, None, slice_get}
use Rattle.dy_base.specs.declared.kind.Kind.{Kind}
use Rattle.dy_base.specs.declared.kind.Kind.TheVariants.{Unbalanced, TooDeep}
use Rattle.dy_base.specs.declared.fault.Place.{Place}
use Rattle.dy_base.specs.declared.fault.Fault.{Fault}
use Rattle.dy_base.specs.declared.fault.Refusal.{Refusal}
use Rattle.dy_base.specs.declared.fault.Refusal.TheVariants as refusals
use Rattle.dy_tree.specs.declared.token.Token.{Token}
use Rattle.dy_tree.specs.declared.words.Words.{Words}
use Rattle.dy_tree.specs.Fragments.{SeenFragment, one, group, pack, seen_fragments}
use Rattle.dy_fragment.specs.declared.front.Mode.TheVariants as modes
use Rattle.dy_fragment.specs.declared.front.Local.TheVariants as locals
use Rattle.dy_fragment.specs.declared.front.Context.{Context}
use Rattle.dy_fragment.specs.declared.front.Closer.{Closer}
use Rattle.dy_fragment.specs.declared.front.Front.{Front}
use Rattle.dy_fragment.specs.declared.front.Front.TheVariants.{Leaf, Opens, Closes, Wrong}
use Rattle.dy_fragment.specs.declared.closing.Closing.{Closing}
use Rattle.dy_fragment.specs.declared.closing.Closed.{Closed}
use Rattle.dy_fragment.specs.declared.closing.Closed.TheVariants as closed
use Rattle.dy_fragment.specs.declared.steps.Open.{Open}
use Rattle.dy_fragment.specs.declared.steps.State.{State}
use Rattle.dy_fragment.specs.Fronts.{front_at}
use Rattle.dy_fragment.specs.Closings.{close}

-- a group that is open, and what stands before it in the group around it
pub record SeenOpen : Type 0 where
  pub opener : Token
  pub closing : Closing
  pub before : List SeenFragment

-- what was read so far: the open groups, the innermost first, what is in that one, and the first
-- opener that is too deep
pub record SeenState : Type 0 where
  pub at : ℕ
  pub context : Context
  pub open_groups : List SeenOpen
  pub row : List SeenFragment
  pub deep : Option Place

abbrev pub seen_open : Open → SeenOpen
seen_open o = record {
  opener = o.opener;
  closing = o.closing;
  before = seen_fragments o.before.items;
}

abbrev pub seen_opens : List Open → List SeenOpen
seen_opens os = reverse (map seen_open os)

abbrev pub seen_state : State → SeenState
seen_state s = record {
  at = s.at;
  context = s.context;
  open_groups = seen_opens s.open_groups.items;
  row = seen_fragments s.row.items;
  deep = s.deep;
}

-- a fault at a place, whose subject is written later
abbrev pub fault_at : Kind → Place → Fault
fault_at kind place = record
    { kind = kind; library = []; place = Some place; shown = []; numbers = [] }

-- of an opener that is too deep and what is wrong, the one that stands earlier; what is wrong, if
-- they stand at one place
abbrev pub earlier : Option Place → Place → Fault
earlier None place = fault_at Unbalanced place
earlier (Some deep) place =
    if nat_lt deep.offset place.offset then fault_at TooDeep deep else fault_at Unbalanced place

-- after an opener that is too deep no tree is made
abbrev pub with_tree : Option Place → List SeenFragment → SeenFragment → List SeenFragment
with_tree None row tree = row ++ tree ∷ []
with_tree (Some deep) row tree = row

abbrev pub deeper : ℕ → Option Place → ℕ → Place → Option Place
deeper limit (Some deep) depth place = Some deep
deeper limit None depth place = if nat_lt depth limit then None else Some place

abbrev pub Step : Type 0
Step = Result SeenState Fault

abbrev pub leaf_step : SeenState → Token → Context → Step
leaf_step s t context = Ok
    (record {
      at = s.at + 1;
      context = context;
      open_groups = s.open_groups;
      row = with_tree s.deep s.row (one t);
      deep = s.deep;
    })

abbrev pub open_step : ℕ → SeenState → Token → Closing → Context → Step
open_step limit s t closing context = Ok (record {
  at = s.at + 1;
  context = context;
  open_groups = record { opener = t; closing = closing; before = s.row } ∷ s.open_groups;
  row = [];
  deep = deeper limit s.deep (length s.open_groups) t.place;
})

abbrev pub closed_step : Option Place → List SeenFragment → Token → SeenOpen → List SeenOpen
    → Closed → Step
closed_step deep row t o os (closed.At at context) =
    Ok (record {
      at = at;
      context = context;
      open_groups = os;
      row = with_tree deep o.before (group o.opener (pack row) t);
      deep = deep;
    })
closed_step deep row t o os (closed.Wrong place) = Err (earlier deep place)

-- grouping goes on at this place
abbrev pub IsAt : ℕ → Closed → Type 0
IsAt at (closed.At to context) = at ≡ to
IsAt at (closed.Wrong place) = ⊥

abbrev pub close_step : Words → List Token → SeenState → Token → Closer → List SeenOpen → Step
close_step words tokens s t closer [] = Err (earlier s.deep t.place)
close_step words tokens s t closer (o ∷ os) =
    closed_step s.deep s.row t o os (close words tokens o.closing closer t (s.at + 1) s.context)

abbrev pub step_by : ℕ → Words → List Token → SeenState → Token → Front → Step
step_by limit words tokens s t (Leaf context) = leaf_step s t context
step_by limit words tokens s t (Opens closing context) = open_step limit s t closing context
step_by limit words tokens s t (Closes closer) = close_step words tokens s t closer s.open_groups
step_by limit words tokens s t Wrong = Err (earlier s.deep t.place)

-- what a token does to what was read before it
abbrev pub step : ℕ → Words → List Token → SeenState → Token → Step
step limit words tokens s t =
    step_by limit words tokens s t (front_at words tokens t s.at s.context)

abbrev pub Grouping : Type 0
Grouping = Result (List SeenFragment) Fault

abbrev pub complete_row : Option Place → List SeenFragment → Grouping
complete_row None row = Ok row
complete_row (Some deep) row = Err (fault_at TooDeep deep)

abbrev pub finish_with : Option Place → List SeenFragment → List SeenOpen → Grouping
finish_with deep row [] = complete_row deep row
finish_with deep row (o ∷ os) = Err (earlier deep o.opener.place)

-- at the end of the tokens no group may be open
abbrev pub finish : SeenState → Grouping
finish s = finish_with s.deep s.row s.open_groups

abbrev pub and_then : Step → (SeenState → Grouping) → Grouping
and_then (Ok s) more = more s
and_then (Err f) more = Err f

abbrev pub or_finish : ℕ → Words → List Token → SeenState → Option Token → (SeenState → Grouping)
    → Grouping
or_finish limit words tokens s None more = finish s
or_finish limit words tokens s (Some t) more = and_then (step limit words tokens s t) more

-- what n tokens or fewer that follow give
abbrev pub run : ℕ → Words → List Token → ℕ → SeenState → Grouping
run limit words tokens zero s = finish s
run limit words tokens (suc n) s =
    or_finish limit words tokens s (slice_get tokens s.at) (λ next. run limit words tokens n next)

abbrev pub start : Context
start = record { mode = modes.Words; local = locals.Off }

-- before the first token
abbrev pub at_start : SeenState
at_start = record { at = 0; context = start; open_groups = []; row = []; deep = None }

-- the groups of the tokens, if none is deeper than the limit
abbrev pub group_within : ℕ → Words → List Token → Grouping
group_within limit words tokens = run limit words tokens (length tokens) at_start

-- the groups of the tokens, or the earliest fault
abbrev pub group_of : Words → List Token → Grouping
group_of words tokens = group_within 200 words tokens

-- what a call returned is this, unless memory ran out
abbrev pub Fails : {Y : Type 0} → Refusal → Result Y Fault → Type 0
Fails refusals.Memory r = Unit {0}
Fails (refusals.Fault f) r = r ≡ Err f

abbrev pub Gives : {X Y : Type 0} → (X → Y) → Result X Refusal → Result Y Fault → Type 0
Gives view (Ok x) r = r ≡ Ok (view x)
Gives view (Err e) r = Fails e r
