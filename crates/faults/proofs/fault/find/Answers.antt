-- By the labels, and component by component.
use mathlib.Core.Path.{refl}
use Rattle.candidates.proofs.PortRows.{ports-of}
use Rattle.network.specs.NetIn.{net_in}
use Rattle.network.specs.Ready.{state_in}
use Rattle.faults.proofs.Finding.{to-within, none-room, held_in, apart-room, apart-found, tables-in, taken-flags, served-found}
use Rattle.faults.proofs.fault.find.Goals as goal

pub apart-requires : goal.apart-requires
apart-requires c = let o = c.requires.2 in (ports-of o.nets-in.contexts-in, none-room o, to-within o)

pub bounds-links-y : goal.bounds-links-y
bounds-links-y c = apart-room c.requires.2 c.in-Some.y c.in-Some.ensures

pub returns-in-Some : goal.returns-in-Some
returns-in-Some c = λ sheet figure o atoms un t p. apart-found o atoms un c.in-Some.y c.in-Some.ensures

pub port_table-requires : goal.port_table-requires
port_table-requires c = let o = c.requires.2 in
    (none-room o, (c.args.nets.count, ports-of o.nets-in.contexts-in, to-within o), refl, c.numbers-numbers.ensures)

pub returns : goal.returns
returns c = let a = c.args in
    let u = c.used_links-used in
    let n = c.numbers-numbers in
    let v = c.port_table in
    λ sheet figure o atoms un t p. served-found o atoms un c.served.result c.in_default.ensures
    (c.served.ensures a.nets.contexts n.ensures (net_in sheet) (net_in figure) (state_in figure atoms a.to.now) (held_in o) (tables-in o atoms un u.result v.new.table p u.ensures v.ensures) (taken-flags o atoms un a.taken.now t))
