-- The words for what is tested (own).
use Rattle.std.specs.Prelude.{ℕ, List, codes}
use Rattle.dy_generics.specs.declared.misfit.Reason.{Reason}
use Rattle.dy_generics.specs.declared.misfit.Reason.TheVariants.{Count, Specializer, Kind, Keyword, ResultCount, ResultType}

abbrev pub word_of : Reason → List ℕ
word_of Count = codes "count"
word_of Specializer = codes "specializer"
word_of Kind = codes "kind"
word_of Keyword = codes "keyword"
word_of ResultCount = codes "result-count"
word_of ResultType = codes "result-type"
