use Rattle.dy_writer.proofs.write.slots.push_option.Goals as goal

pub returns-in-InitKeyword : goal.returns-in-InitKeyword
returns-in-InitKeyword c = rw c.in-InitKeyword.is c.push_token_option.ensures

pub returns-in-RequiredInitKeyword : goal.returns-in-RequiredInitKeyword
returns-in-RequiredInitKeyword c = rw c.in-RequiredInitKeyword.is c.push_token_option-in-RequiredInitKeyword.ensures

pub returns-in-InitValue : goal.returns-in-InitValue
returns-in-InitValue c = rw c.in-InitValue.is c.push_value_option.ensures
