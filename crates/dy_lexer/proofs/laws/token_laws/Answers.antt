use Rattle.dy_pieces.proofs.Munch.{exact}
use Rattle.dy_lexer.proofs.Whole.{judged, complete, complete_fault, unique, unique_fault, exclusive}
use Rattle.dy_pieces.proofs.Spellings.{characters_law}
use Rattle.dy_pieces.proofs.Closers.{literal_law, comment_law}
use Rattle.dy_lexer.proofs.OneReading.{one_header, one_source, one_first, source_or_fault, one_lid, one_lid_fault, lid_or_fault}
use Rattle.dy_lexer.proofs.FileNames.{lid_names}
use Rattle.dy_lexer.proofs.laws.token_laws.Goals as goal

pub returns : goal.returns
returns c = record { judged = judged; cut = complete; broken = complete_fault; one = unique; one_fault = unique_fault; apart = exclusive; next = exact; characters = characters_law; literals = literal_law; comments = comment_law; one_header = one_header; one_source = one_source; one_source_fault = one_first; source_apart = source_or_fault; one_lid = one_lid; one_lid_fault = one_lid_fault; lid_apart = lid_or_fault; file_names = lid_names }
