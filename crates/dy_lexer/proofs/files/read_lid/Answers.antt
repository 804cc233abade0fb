use Rattle.dy_lexer.proofs.LidFile.{lid_reading, lid_reads, lid_refuses}
use Rattle.dy_lexer.proofs.FileNames.{read_names}
use Rattle.dy_lexer.proofs.files.read_lid.Goals as goal

pub returns : goal.returns
returns c = record {
  reading = lid_reading c.args.bytes.now c.read_lid_file.result c.read_lid_file.ensures;
  lid = λ l h. lid_reads c.args.bytes.now c.read_lid_file.result l c.read_lid_file.ensures h;
  fault = λ f h. lid_refuses c.args.bytes.now c.read_lid_file.result f c.read_lid_file.ensures h;
  names = read_names c.args.bytes.now c.read_lid_file.result (lid_reading c.args.bytes.now c.read_lid_file.result c.read_lid_file.ensures);
}
