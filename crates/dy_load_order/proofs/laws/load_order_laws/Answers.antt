use Rattle.dy_load_order.proofs.Visiting.{visits_are_so, visits_are_one}
use Rattle.dy_load_order.proofs.Lawful.{dylan_is_first, main_is_last, none_is_twice, used_are_in_front, reached_are_loaded}
use Rattle.dy_load_order.proofs.Earlier.{orders_stay}
use Rattle.dy_load_order.proofs.laws.load_order_laws.Goals as goal

pub returns-clause-visits : goal.returns-clause-visits
returns-clause-visits c = visits_are_so

pub returns-clause-one : goal.returns-clause-one
returns-clause-one c = visits_are_one

pub returns-clause-first : goal.returns-clause-first
returns-clause-first c = dylan_is_first

pub returns-clause-last : goal.returns-clause-last
returns-clause-last c = main_is_last

pub returns-clause-once : goal.returns-clause-once
returns-clause-once c = none_is_twice

pub returns-clause-in_front : goal.returns-clause-in_front
returns-clause-in_front c = used_are_in_front

pub returns-clause-reached : goal.returns-clause-reached
returns-clause-reached c = reached_are_loaded

pub returns-clause-stay : goal.returns-clause-stay
returns-clause-stay c = orders_stay
