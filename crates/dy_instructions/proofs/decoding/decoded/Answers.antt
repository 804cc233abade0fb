use Rattle.dy_code.specs.declared.opcode.Opcode.TheVariants as opcode
use Rattle.dy_instructions.proofs.Known.{of_opcode}
use Rattle.dy_instructions.proofs.decoding.decoded.Goals as goal

pub returns-in-Const : goal.returns-in-Const
returns-in-Const c = of_opcode c.args.at c.args.opcode opcode.Const c.args.first c.args.second
    c.constant.result c.in-Const.is c.constant.ensures

pub returns-in-Local : goal.returns-in-Local
returns-in-Local c = of_opcode c.args.at c.args.opcode opcode.Local c.args.first c.args.second
    c.local.result c.in-Local.is c.local.ensures

pub returns-in-SetLocal : goal.returns-in-SetLocal
returns-in-SetLocal c = of_opcode c.args.at c.args.opcode opcode.SetLocal c.args.first c.args.second
    c.local-in-SetLocal.result c.in-SetLocal.is c.local-in-SetLocal.ensures

pub returns-in-NewCell : goal.returns-in-NewCell
returns-in-NewCell c = of_opcode c.args.at c.args.opcode opcode.NewCell c.args.first c.args.second
    c.local-in-NewCell.result c.in-NewCell.is c.local-in-NewCell.ensures

pub returns-in-CellGet : goal.returns-in-CellGet
returns-in-CellGet c = of_opcode c.args.at c.args.opcode opcode.CellGet c.args.first c.args.second
    c.local-in-CellGet.result c.in-CellGet.is c.local-in-CellGet.ensures

pub returns-in-CellSet : goal.returns-in-CellSet
returns-in-CellSet c = of_opcode c.args.at c.args.opcode opcode.CellSet c.args.first c.args.second
    c.local-in-CellSet.result c.in-CellSet.is c.local-in-CellSet.ensures

pub returns-in-Free : goal.returns-in-Free
returns-in-Free c = of_opcode c.args.at c.args.opcode opcode.Free c.args.first c.args.second
    c.capture.result c.in-Free.is c.capture.ensures

pub returns-in-FreeGet : goal.returns-in-FreeGet
returns-in-FreeGet c = of_opcode c.args.at c.args.opcode opcode.FreeGet c.args.first c.args.second
    c.capture-in-FreeGet.result c.in-FreeGet.is c.capture-in-FreeGet.ensures

pub returns-in-FreeSet : goal.returns-in-FreeSet
returns-in-FreeSet c = of_opcode c.args.at c.args.opcode opcode.FreeSet c.args.first c.args.second
    c.capture-in-FreeSet.result c.in-FreeSet.is c.capture-in-FreeSet.ensures

pub returns-in-Global : goal.returns-in-Global
returns-in-Global c = of_opcode c.args.at c.args.opcode opcode.Global c.args.first c.args.second
    c.global.result c.in-Global.is c.global.ensures

pub returns-in-SetGlobal : goal.returns-in-SetGlobal
returns-in-SetGlobal c = of_opcode c.args.at c.args.opcode opcode.SetGlobal c.args.first c.args.second
    c.set_global.result c.in-SetGlobal.is c.set_global.ensures

pub returns-in-Closure : goal.returns-in-Closure
returns-in-Closure c = of_opcode c.args.at c.args.opcode opcode.Closure c.args.first c.args.second
    c.closure.result c.in-Closure.is c.closure.ensures

pub returns-in-Search : goal.returns-in-Search
returns-in-Search c = of_opcode c.args.at c.args.opcode opcode.Search c.args.first c.args.second
    c.search.result c.in-Search.is c.search.ensures

pub returns-in-CallDirect : goal.returns-in-CallDirect
returns-in-CallDirect c = of_opcode c.args.at c.args.opcode opcode.CallDirect c.args.first c.args.second
    c.direct.result c.in-CallDirect.is c.direct.ensures

pub returns-in-CallKnown : goal.returns-in-CallKnown
returns-in-CallKnown c = of_opcode c.args.at c.args.opcode opcode.CallKnown c.args.first c.args.second
    c.known.result c.in-CallKnown.is c.known.ensures

pub returns-in-Spread : goal.returns-in-Spread
returns-in-Spread c = of_opcode c.args.at c.args.opcode opcode.Spread c.args.first c.args.second
    c.spread.result c.in-Spread.is c.spread.ensures

pub returns-in-Check : goal.returns-in-Check
returns-in-Check c = of_opcode c.args.at c.args.opcode opcode.Check c.args.first c.args.second
    c.check.result c.in-Check.is c.check.ensures

pub returns-in-CheckResults : goal.returns-in-CheckResults
returns-in-CheckResults c = of_opcode c.args.at c.args.opcode opcode.CheckResults c.args.first c.args.second
    c.check_results.result c.in-CheckResults.is c.check_results.ensures

pub returns-in-Handle : goal.returns-in-Handle
returns-in-Handle c = of_opcode c.args.at c.args.opcode opcode.Handle c.args.first c.args.second
    c.handle.result c.in-Handle.is c.handle.ensures

pub returns-in-Catch : goal.returns-in-Catch
returns-in-Catch c = of_opcode c.args.at c.args.opcode opcode.Catch c.args.first c.args.second
    c.catch.result c.in-Catch.is c.catch.ensures

pub returns-in-Next : goal.returns-in-Next
returns-in-Next c = of_opcode c.args.at c.args.opcode opcode.Next c.args.first c.args.second
    c.next_call.result c.in-Next.is c.next_call.ensures

pub returns-in-Fault : goal.returns-in-Fault
returns-in-Fault c = of_opcode c.args.at c.args.opcode opcode.Fault c.args.first c.args.second
    c.fault.result c.in-Fault.is c.fault.ensures

pub returns-in-Args : goal.returns-in-Args
returns-in-Args c = of_opcode c.args.at c.args.opcode opcode.Args c.args.first c.args.second
    c.args-in-Args.result c.in-Args.is c.args-in-Args.ensures
