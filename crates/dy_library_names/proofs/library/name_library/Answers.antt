use Rattle.dy_library_names.proofs.Judging.{named_of, refused_of}
use Rattle.dy_library_names.proofs.library.name_library.Goals as goal

pub returns-in_ok-assemble_named-in-None : goal.returns-in_ok-assemble_named-in-None
returns-in_ok-assemble_named-in-None c =
    named_of c.args.table c.args.heading c.args.words.now.items c.args.doubled c.args.forms.now
    c.in_ok-judged.judged c.in_ok-judged.ensures c.in_ok-assemble_named-in-None.field-0
    c.in-None.is c.in_ok-assemble_named-in-None.ensures

pub returns-in-Some : goal.returns-in-Some
returns-in-Some c =
    refused_of c.args.table c.args.heading c.args.words.now.items c.args.doubled c.args.forms.now
    c.in_ok-judged.judged c.in_ok-judged.ensures c.in-Some.fault c.in-Some.is
