mod Lines
mod Answering
