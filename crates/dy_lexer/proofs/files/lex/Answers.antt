use Rattle.dy_lexer.proofs.SourceFile.{reading, reads, refuses}
use Rattle.dy_lexer.proofs.files.lex.Goals as goal

pub returns : goal.returns
returns c = record {
  reading = reading c.args.file c.args.bytes.now c.read_source.result c.read_source.ensures;
  tokens = λ s h. reads c.args.file c.args.bytes.now c.read_source.result s c.read_source.ensures h;
  fault = λ f h. refuses c.args.file c.args.bytes.now c.read_source.result f c.read_source.ensures h;
}
