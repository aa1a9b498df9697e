-- The number of each refusal, and its cause in words.
use Rattle.std.specs.Prelude.{ℕ, List, codes}
use Rattle.codec.specs.declared.encoding.SinkRefused.{SinkRefused}
use Rattle.codec.specs.declared.element.fault.ElementFault.{ElementFault}
use Rattle.codec.specs.declared.element.fault.ElementFault.TheVariants.{Number, PastEnd, NotUtf8}
use Rattle.codec.specs.declared.parse.fault.NumberFault.{NumberFault}
use Rattle.codec.specs.declared.parse.fault.NumberFault.TheVariants.{CutShort, TooLarge, Overlong}

-- a sink refused a byte
abbrev pub sink_number : SinkRefused → ℕ
sink_number refused = 15

-- a bad entry; what is wrong with it is its cause
abbrev pub fault_number : NumberFault → ℕ
fault_number CutShort = 17
fault_number TooLarge = 17
fault_number Overlong = 17

abbrev pub cause_of : NumberFault → List ℕ
cause_of CutShort = codes "cut short"
cause_of TooLarge = codes "too large"
cause_of Overlong = codes "overlong"

-- the same of an element
abbrev pub element_number : ElementFault → ℕ
element_number (Number fault) = fault_number fault
element_number PastEnd = 17
element_number NotUtf8 = 17

abbrev pub element_cause : ElementFault → List ℕ
element_cause (Number fault) = cause_of fault
element_cause PastEnd = codes "past the end"
element_cause NotUtf8 = codes "not UTF-8"
