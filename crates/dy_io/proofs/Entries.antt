-- The files of a list of entries, against what a search among the entries finds.
use Rattle.std.proofs.Common.{◌≡◌, ◌≢◌, ℕ, Bool, true, false, cond, List, [], ◌∷◌, map, Option, Some, None, String, string_bytes, Vec, BTreeMap, refl, sym, ap, ◌∙◌}
use Rattle.std.specs.Ordering.{nat_cmp, is_eq}
use Rattle.std.specs.Cmp.Lexicographic.{slice_cmp, nat_list_cmp_total, nat_list_eq_equiv, bytes_decides}
use Rattle.std.specs.Option.{option_map}
use Rattle.std.specs.Str.{bytes_eq}
use Rattle.std.specs.Map.{lookup, update}
use Rattle.std.specs.BTreeMap.{get_by_text, is_at}
use Rattle.std.specs.FinMap.{find, get, insert, remove, get-from_entries, get-insert, get-remove, same_map, nat_cmp-IsAntisymmetric, slice_cmp-IsAntisymmetric}
use Rattle.std.proofs.lemmas.Map.Text.{is_eq-slice_cmp}
use Rattle.dy_io.specs.Files.{FileMap}
use Rattle.dy_io.specs.Memory.{files_of}

-- two maps of files that answer alike are equal
same_files : (m n : FileMap) → ((name : List ℕ) → get m name ≡ get n name) → m ≡ n
same_files = same_map nat_list_cmp_total (slice_cmp-IsAntisymmetric nat_cmp-IsAntisymmetric)

-- the same test, with its sides turned
turned : (name other : List ℕ) → bytes_eq name other ≡ is_eq (slice_cmp nat_cmp other name)
turned name other = nat_list_eq_equiv.symm name other ∙ sym (is_eq-slice_cmp other name)

chosen : {B : Type 0} (here : Bool) (bytes : Vec ℕ B) (before : Option (Vec ℕ B)) → option_map (λ b. b.items) (cond here (Some bytes) before) ≡ cond here (Some bytes.items) (option_map (λ b. b.items) before)
chosen true bytes before = refl
chosen false bytes before = refl

dropped : {B : Type 0} (here : Bool) (before : Option (Vec ℕ B)) → option_map (λ b. b.items) (cond here None before) ≡ cond here None (option_map (λ b. b.items) before)
dropped true before = refl
dropped false before = refl

module _ {A B : Type 0} where
  -- a search among the entries finds the file of that name
  found : (name : List ℕ) (entries : List (String A × Vec ℕ B))
      → find (slice_cmp nat_cmp) name (map (λ entry. (string_bytes entry.0, entry.1.items)) entries)
      ≡ option_map (λ bytes. bytes.items) (lookup (is_at (λ k. slice_cmp nat_cmp name (string_bytes k))) entries)
  found name [] = refl
  found name (entry ∷ rest) =
      elim (is_eq (slice_cmp nat_cmp name (string_bytes entry.0))) as (λ here. cond here (Some entry.1.items) (find (slice_cmp nat_cmp) name (map (λ (e : String A × Vec ℕ B). (string_bytes e.0, e.1.items)) rest)) ≡ option_map (λ bytes. bytes.items) (cond here (Some entry.1) (lookup (is_at (λ k. slice_cmp nat_cmp name (string_bytes k))) rest))) [
        | true ↦ refl
        | false ↦ found name rest
      ]

  pub get-files_of : (m : BTreeMap (String A) (Vec ℕ B)) (name : List ℕ) → get (files_of m.entries) name ≡ option_map (λ bytes. bytes.items) (get_by_text m name)
  get-files_of m name = get-from_entries nat_list_cmp_total _ name ∙ found name m.entries

  -- a table that has these bytes at the name, and else what it had
  pub files_of-set : (m n : BTreeMap (String A) (Vec ℕ B)) (name : List ℕ) (bytes : Vec ℕ B)
      → ((other : List ℕ) → get_by_text n other ≡ update bytes_eq (get_by_text m) name (Some bytes) other)
      → files_of n.entries ≡ insert (files_of m.entries) name bytes.items
  files_of-set m n name bytes sets = same_files _ _ (λ other.
      get-files_of n other
      ∙ ap (option_map (λ b. b.items)) (sets other)
      ∙ chosen (bytes_eq name other) bytes (get_by_text m other)
      ∙ ap (λ here. cond here (Some bytes.items) (option_map (λ b. b.items) (get_by_text m other))) (turned name other)
      ∙ ap (cond (is_eq (slice_cmp nat_cmp other name)) (Some bytes.items)) (sym (get-files_of m other))
      ∙ sym (get-insert nat_list_cmp_total _ name bytes.items other))

  -- a table that has nothing at the name, and else what it had
  pub files_of-unset : (m n : BTreeMap (String A) (Vec ℕ B)) (name : List ℕ)
      → ((other : List ℕ) → get_by_text n other ≡ update bytes_eq (get_by_text m) name None other)
      → files_of n.entries ≡ remove (files_of m.entries) name
  files_of-unset m n name sets = same_files _ _ (λ other.
      get-files_of n other
      ∙ ap (option_map (λ b. b.items)) (sets other)
      ∙ dropped (bytes_eq name other) (get_by_text m other)
      ∙ ap (λ here. cond here None (option_map (λ b. b.items) (get_by_text m other))) (turned name other)
      ∙ ap (cond (is_eq (slice_cmp nat_cmp other name)) None) (sym (get-files_of m other))
      ∙ sym (get-remove nat_list_cmp_total _ name other))

-- the other files stay where one is taken out
pub get-remove_other : (m : FileMap) (name other : List ℕ) → other ≢ name → get (remove m name) other ≡ get m other
get-remove_other m name other differs = get-remove nat_list_cmp_total m name other ∙ kept (is_eq (slice_cmp nat_cmp other name)) refl
  where
    kept : (same : Bool) → is_eq (slice_cmp nat_cmp other name) ≡ same → cond same None (get m other) ≡ get m other
    kept true same = absurd (differs ((bytes_decides other name).0 (sym (is_eq-slice_cmp other name) ∙ same)))
    kept false same = refl
