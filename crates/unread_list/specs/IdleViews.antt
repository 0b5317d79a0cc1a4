-- Elements that do nothing as contracts see them.
use Rattle.unread_list.specs.Elements.{IdleOf}
use Rattle.unread_list.specs.declared.elements.IdleElement.{IdleElement}

-- an element by its number
abbrev pub idle_in : IdleElement → IdleOf
idle_in e = record { element = e.element.0; why = e.why }
