use Rattle.dy_library_modules.proofs.LexedFiles as files
use Rattle.dy_library_modules.proofs.Uniqueness as answers
use Rattle.dy_library_modules.proofs.JoinedForms as forms
use Rattle.dy_library_modules.proofs.OneAnswer as wholes
use Rattle.dy_library_modules.proofs.laws.module_phase_laws.Goals as goal

pub returns-clause-lexed : goal.returns-clause-lexed
returns-clause-lexed c = answers.lexed_one

pub returns-clause-header_first : goal.returns-clause-header_first
returns-clause-header_first c = files.header_first

pub returns-clause-faulty_first : goal.returns-clause-faulty_first
returns-clause-faulty_first c = files.faulty_first

pub returns-clause-one_fault : goal.returns-clause-one_fault
returns-clause-one_fault c = answers.one_fault

pub returns-clause-one_reading : goal.returns-clause-one_reading
returns-clause-one_reading c = answers.one_reading

pub returns-clause-apart : goal.returns-clause-apart
returns-clause-apart c = answers.apart

pub returns-clause-users : goal.returns-clause-users
returns-clause-users c = answers.users_one

pub returns-clause-joined : goal.returns-clause-joined
returns-clause-joined c = forms.users_forms

pub returns-clause-modules_apart : goal.returns-clause-modules_apart
returns-clause-modules_apart c = wholes.modules_apart

pub returns-clause-one_modules : goal.returns-clause-one_modules
returns-clause-one_modules c = λ tables words library sources compiled. wholes.one_modules words library sources compiled tables

pub returns-clause-one_modules_fault : goal.returns-clause-one_modules_fault
returns-clause-one_modules_fault c = λ faults words library sources compiled. wholes.one_modules_fault words library sources compiled faults
