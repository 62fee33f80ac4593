mod Steps
mod Live
mod InstructionLine
